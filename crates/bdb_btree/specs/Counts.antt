-- How many pairs are below an item, live ones and all, counted up to the greatest number of 64 bits.
use Rattle.std.specs.Prelude.{ℕ, ◌+◌, ◌-◌, ◌^◌, min, if◌then◌else◌, IsTrue, List, [], ◌∷◌, length}
use Rattle.std.specs.List.{filter}
use Rattle.bdb_ranks.specs.of_format.Terms.{File, StoredPair, has_type, page_at, type_in}
use Rattle.bdb_btree.specs.declared.counts.Counts.{Counts}

abbrev pub counted : ℕ → ℕ
counted n = min (2 ^ 64 - 1) n

-- those of these pairs
abbrev pub counts_of : List StoredPair → Counts
counts_of pairs = record { live = counted (length (filter (λ (pair : StoredPair). pair.live) pairs)); all = counted (length pairs) }

-- with one more, and with more of which the counts are known
abbrev pub count_pair : Counts → StoredPair → Counts
count_pair counts pair = record { live = if pair.live then counted (counts.live + 1) else counts.live; all = counted (counts.all + 1) }

abbrev pub added : Counts → Counts → Counts
added counts more = record { live = counted (counts.live + more.live); all = counted (counts.all + more.all) }

-- the pages of a tree of pairs, or of sorted data
abbrev pub IsKeyed : File → ℕ → Type 0
IsKeyed file p = IsTrue (has_type (3 ∷ 5 ∷ 12 ∷ []) (type_in (page_at file p)))
