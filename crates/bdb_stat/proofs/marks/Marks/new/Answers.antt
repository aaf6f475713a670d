use Rattle.std.proofs.Common.{arith}
use Rattle.bdb_stat.proofs.MarkLemmas.{marks_long}
use Rattle.bdb_stat.proofs.marks.Marks.new.Goals as goal

pub returns : goal.returns
returns c = omega (arith, marks_long c.in_ok-vec.field-0.items, c.in_ok-vec.field-0.ok.0, c.in_ok-vec.ensures.len)
