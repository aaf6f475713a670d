use Rattle.std.specs.Prelude.{take}
use Rattle.bdb_rescue.specs.Marks.{Marks, starts_of}
use Rattle.bdb_rescue.proofs.starts.set_starts.Given as goal

abbrev pub invariant-loop-pair : goal.invariant-loop-pair
invariant-loop-pair l = Marks l.count l.starts.items (starts_of (take l.pair-index l.pairs))
