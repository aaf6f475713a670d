-- The pairs of a list between two keys. Source: docs/FORMAT.md, "Ranges".
use Rattle.std.specs.Prelude.{ℕ, ◌&&◌, not, Bool, false, List}
use Rattle.std.specs.List.{filter}
use Rattle.bdb_btree.specs.of_format.Terms.{BytesKey, ListKey, NumberKey, less}

-- a key isn't less than the first bound, and is less than the second
abbrev pub lies_between : List ℕ → List ℕ → List ℕ → Bool
lies_between from to key = not (less key from) && less key to

abbrev pub is_between : List ℕ → List ℕ → ListKey → Bool
is_between from to (BytesKey key) = lies_between from to key
is_between from to (NumberKey number) = false

-- the pairs of a list whose keys lie in a range, in order
abbrev pub in_range : List (ListKey × List ℕ) → List ℕ → List ℕ → List (ListKey × List ℕ)
in_range list from to = filter (λ (pair : ListKey × List ℕ). is_between from to pair.0) list
