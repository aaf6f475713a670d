-- The table is held against the definition at each of the 256 bytes, by computing.
use Rattle.std.proofs.Common.{refl, arith}
use Rattle.bdb_spelling.specs.DigitTables.{high_part}
use Rattle.bdb_spelling.specs.declared.digit_tables.TheConstants.{HIGH}
use Rattle.bdb_spelling.proofs.DigitTableLemmas.{from_table}
use Rattle.bdb_spelling.proofs.digit_tables.high_part.Goals as goal

pub returns : goal.returns
returns c = from_table HIGH high_part c.args.digit (omega arith) refl
