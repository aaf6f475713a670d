-- Items that have keys, and the keys that came before.
use Rattle.std.specs.Prelude.{ℕ, if◌then◌else◌, Bool, List, [], ◌∷◌}
use Rattle.std.specs.BTreeSet.{BTreeSet, contains}
use Rattle.std.specs.Cmp.Lexicographic.{slice_cmp}
use Rattle.std.specs.List.{list_any}
use Rattle.std.specs.Ordering.{nat_cmp}
use Rattle.std.specs.Str.{bytes_eq}

-- this key is among these
abbrev pub has_key : BTreeSet (List ℕ) → List ℕ → Bool
has_key keys key = contains (slice_cmp nat_cmp) keys key

-- one of these items has this key
abbrev pub has_item : {X : Type 0} → (X → List ℕ) → List X → List ℕ → Bool
has_item key items sought = list_any (λ other. bytes_eq (key other) sought) items

-- the items that have the key of one of these or of an earlier one
abbrev pub repeated_by : {X : Type 0} → (X → List ℕ) → List X → List X → List X
repeated_by key before [] = []
repeated_by key before (x ∷ xs) =
    if has_item key before (key x) then x ∷ repeated_by key (x ∷ before) xs else repeated_by key (x ∷ before) xs
