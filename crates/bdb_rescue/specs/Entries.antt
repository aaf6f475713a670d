-- What is left of a pair that is read.
use Rattle.std.specs.Prelude.{List, ℕ, [], ◌∷◌}
use Rattle.bdb_survey.specs.of_overflow.Datum.{datum_seen}
use Rattle.bdb_survey.specs.of_overflow.declared.datum.Datum.{Datum}
use Rattle.bdb_rescue.specs.declared.entry.PairData.{PairData}
use Rattle.bdb_rescue.specs.declared.entry.PairData.TheVariants.{None as Ended, One, Blocks, Set}

-- the data that are left
abbrev pub data_left : PairData → List (List ℕ)
data_left Ended = []
data_left (One datum) = datum_seen datum ∷ []
data_left (Blocks blocks) = blocks.blocks
data_left (Set values) = values

-- a record without where its bytes lie
abbrev pub record_read : (ℕ × Datum) → (ℕ × List ℕ)
record_read record_at = (record_at.0, datum_seen record_at.1)

-- a pair without where its bytes lie
abbrev pub pair_read : (Datum × Datum) → (List ℕ × List ℕ)
pair_read pair = (datum_seen pair.0, datum_seen pair.1)
