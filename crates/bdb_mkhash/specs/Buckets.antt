-- How many buckets a table has, on which pages their keys stand, and how many pages that are. Source: docs/FORMAT.md, "Built tables".
use Rattle.std.specs.Prelude.{ℕ, ◌+◌, ◌*◌, ◌/◌, ◌^◌, nat_le, Bool, List, [], length, map}
use Rattle.std.specs.List.{find, range_with_len, sum_by}
use Rattle.std.specs.Option.{unwrap_or}
use Rattle.bdb_mktree.specs.of_text_format.declared.pairs.Pair.{Pair}
use Rattle.bdb_mktree.specs.of_mkleaves.Placed.{values_in}
use Rattle.bdb_mktree.specs.of_mkleaves.Spread.{spread_on}
use Rattle.bdb_mktree.specs.of_mkleaves.Units.{TreeUnit, key_of, page_room}
use Rattle.bdb_mktree.specs.Lists.{keyed_units}
use Rattle.bdb_law_buckets.specs.Tables.{Keyed, dealt}
use Rattle.bdb_mkhash.specs.Costs.{keyed, keyed_own_pages, keyed_cost}

-- a key with all its data, as the list of a btree has it
abbrev pub keyed_of : TreeUnit → Keyed
keyed_of unit = keyed (key_of unit) (values_in unit)

-- the keys of a list, each with all its data
abbrev pub table_units : List Pair → List Keyed
table_units pairs = map keyed_of (keyed_units pairs)

-- The number of buckets is a power of two, from two on: the least by which half the room of a page for each is enough for a cost.
abbrev pub bits_for : ℕ → ℕ → ℕ
bits_for size cost = unwrap_or (find (λ bits. nat_le cost (2 ^ bits * (page_room size / 2))) (range_with_len 1 31)) 32

-- all keys take so much
abbrev pub table_cost : ℕ → List Keyed → ℕ
table_cost size units = sum_by (keyed_cost size) units

abbrev pub table_bits : ℕ → List Keyed → ℕ
table_bits size units = bits_for size (table_cost size units)

-- the keys on each page of a bucket: there is one page at least
abbrev pub spread_bucket : ℕ → List Keyed → List (List Keyed)
spread_bucket size units = spread_on (page_room size) (keyed_cost size) (keyed_cost size) (page_room size) [] units

-- the keys of each bucket
abbrev pub buckets_of : ℕ → List Keyed → List (List Keyed)
buckets_of bits units = map (dealt bits units) (range_with_len 0 (2 ^ bits))

-- the pages of a table: those of its buckets, and what its keys have of their own
abbrev pub table_size : ℕ → Bool → List Keyed → ℕ
table_size size sorted units =
    sum_by (λ bucket. length (spread_bucket size bucket)) (buckets_of (table_bits size units) units) + sum_by (keyed_own_pages size sorted) units
