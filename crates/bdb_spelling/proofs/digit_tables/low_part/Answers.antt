-- The table is held against the definition at each of the 256 bytes, by computing.
use Rattle.std.proofs.Common.{refl, arith}
use Rattle.bdb_spelling.specs.DigitTables.{low_part}
use Rattle.bdb_spelling.specs.declared.digit_tables.TheConstants.{LOW}
use Rattle.bdb_spelling.proofs.DigitTableLemmas.{from_table}
use Rattle.bdb_spelling.proofs.digit_tables.low_part.Goals as goal

pub returns : goal.returns
returns c = from_table LOW low_part c.args.digit (omega arith) refl
