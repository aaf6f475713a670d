-- An internal page whose keys stand between those below its children. Source: docs/FORMAT.md, "Stage 8, contents".
use Rattle.std.specs.Prelude.{◌≡◌, ℕ, ◌<◌, true, false, List, [], ◌∷◌, length, map, take, get_or}
use Rattle.std.specs.List.{Contains, flat_map}
use Rattle.bdb_law_grove.specs.of_format.Terms.{File, Internal, InternalItem, Listed, Separated, has_wrong_separator, less, no_separator, separated}

-- each key is less than this one
abbrev pub EachLess : List (List ℕ) → List ℕ → Type 0
EachLess keys key = (k : List ℕ) → Contains keys k → less k key ≡ true

-- none is
abbrev pub NoneLess : List (List ℕ) → List ℕ → Type 0
NoneLess keys key = (k : List ℕ) → Contains keys k → less k key ≡ false

-- each separator is less than the one after it
abbrev pub KeysRise : List Separated → Type 0
KeysRise [] = Unit {0}
KeysRise (part ∷ []) = Unit {0}
KeysRise (part ∷ next ∷ parts) = (less part.key next.key ≡ true) × KeysRise (next ∷ parts)

-- the separators but the first rise, none of the keys below a child is less than its own, and each of the keys before is
pub record AreInOrder (first : Separated) (others : List Separated) : Type 0 where
  pub rise : KeysRise others
  pub own : (part : Separated) → Contains others part → NoneLess part.below part.key
  pub before : (i : ℕ) → i < length others → EachLess (flat_map (λ (part : Separated). part.below) (first ∷ take i others)) (get_or others i no_separator).key

-- then no row of separators holds at the page
abbrev pub SeparatorsStand : Type 0
SeparatorsStand =
    (g : File) (page : Listed InternalItem) (first : Separated) (others : List Separated) → map (separated g) page.items ≡ first ∷ others
    → AreInOrder first others
    → has_wrong_separator g (Internal page) ≡ false
