use Rattle.bdb_stat.proofs.MarkLemmas.{high_bits, low_bits}
use Rattle.bdb_stat.proofs.marks.bits_from.Goals as goal

pub returns-clause-low : goal.returns-clause-low
returns-clause-low c i low = low_bits c.args.word c.args.bit i c.requires low

pub returns-clause-high : goal.returns-clause-high
returns-clause-high c i high below = high_bits c.args.word c.args.bit i c.requires high below
