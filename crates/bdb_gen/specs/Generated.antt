-- Pairs that are generated from a number. Source: docs/FORMAT.md, "Generated pairs".
use Rattle.std.specs.Prelude.{ℕ, ◌+◌, ◌*◌, ◌%◌, ◌^◌, zero, suc, List, ◌++◌, map, replicate}
use Rattle.std.specs.List.{range_with_len}
use Rattle.bdb_text_format.specs.of_format.declared.kinds.Kind.{Kind}
use Rattle.bdb_text_format.specs.of_format.declared.kinds.Kind.TheVariants.{Btree, Recno, Hash, Queue}
use Rattle.bdb_text_format.specs.of_format.declared.kinds.Order.TheVariants.{Big}
use Rattle.bdb_text_format.specs.of_format.Terms.{spelled}
use Rattle.bdb_text_format.specs.declared.pairs.Key.{Key}
use Rattle.bdb_text_format.specs.declared.pairs.Key.TheVariants.{Bytes, Number}
use Rattle.bdb_text_format.specs.declared.pairs.Pair.{Pair}

-- the number after a number
abbrev pub next_number : ℕ → ℕ
next_number x = (x * 1103515245 + 12345) % 2 ^ 31

-- the number at a place, the first of which is the seed
abbrev pub number_from : ℕ → ℕ → ℕ
number_from seed zero = seed
number_from seed (suc i) = next_number (number_from seed i)

-- a key: the number and the place as bytes, or the number of a record
abbrev pub pair_key : Kind → ℕ → ℕ → Key
pair_key Btree x i = Bytes (spelled 4 Big x ++ spelled 4 Big i)
pair_key Hash x i = Bytes (spelled 4 Big x ++ spelled 4 Big i)
pair_key Recno x i = Number (i + 1)
pair_key Queue x i = Number (i + 1)

-- how many bytes the data have
abbrev pub value_length : Kind → ℕ → ℕ
value_length Btree x = x % 64
value_length Hash x = x % 64
value_length Recno x = x % 64
value_length Queue x = 16

-- the pair at a place, of the number there
abbrev pub pair_of : Kind → ℕ → ℕ → Pair
pair_of kind x i = record { key = pair_key kind x i; value = replicate (value_length kind x) (i % 256) }

-- the first pairs, so many
unfoldable pub generated : Kind → ℕ → ℕ → List Pair
generated kind seed count = map (λ i. pair_of kind (number_from seed i) i) (range_with_len 0 count)
