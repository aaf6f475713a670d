-- A list that is gone through from entry to entry.
use Rattle.std.proofs.Common.{◌≡◌, ℕ, List, [], ◌∷◌, ◌++◌, arith, flat_map}
use Rattle.bdb_buckets.specs.of_format.Terms.{BytesKey}
use Rattle.bdb_buckets.specs.Told.{Told, entry_list, listed_told}

-- a pair whose only datum stands on its page is listed at once
pub listed_at_once : (key : List ℕ) (values after : List (List ℕ)) (rest left : List Told) (pair : Told) (bytes : List ℕ)
    → values ≡ [] → after ≡ [] → rest ≡ pair ∷ left → listed_told pair ≡ entry_list pair.pair.key (bytes ∷ [])
    → entry_list key values ++ flat_map listed_told rest ≡ (BytesKey pair.pair.key, bytes) ∷ (entry_list key after ++ flat_map listed_told left)
listed_at_once key values after rest left pair bytes none gone was one = grind arith
