-- Which pages belong to sets, as they are marked.
use Rattle.std.specs.Prelude.{◌≡◌, ℕ, ◌==◌, ◌<◌, if◌then◌else◌, Bool, false, List, [], ◌∷◌, length, slice_index_or}
use Rattle.std.specs.List.{flat_map, list_any}
use Rattle.bdb_text_format.specs.of_format.Terms.{File, chain}
use Rattle.bdb_rescue.specs.declared.kept.DataPlace.{DataPlace}
use Rattle.bdb_rescue.specs.declared.kept.DataPlace.TheVariants.{Here, Set as OnLeaves}
use Rattle.bdb_rescue.specs.declared.kept.KeptPair.{KeptPair}

-- the first leaf of a set
abbrev pub leaf_in : DataPlace → List ℕ
leaf_in Here = []
leaf_in (OnLeaves leaf) = leaf ∷ []

-- that of the set of a pair
abbrev pub start_of : KeptPair → List ℕ
start_of kept = leaf_in kept.place

-- the first leaves of the sets of pairs
abbrev pub starts_of : List KeptPair → List ℕ
starts_of pairs = flat_map start_of pairs

abbrev pub is_among : List ℕ → ℕ → Bool
is_among ps p = list_any (λ q. q == p) ps

-- these marks, one for each page, are on these pages
pub record Marks (count : ℕ) (marks : List Bool) (ps : List ℕ) : Type 0 where
  pub all : length marks ≡ count
  pub at : (p : ℕ) → p < count → slice_index_or marks p false ≡ is_among ps p

-- the row of a page that is marked
abbrev pub row_of : File → List Bool → ℕ → List ℕ
row_of file starts p = if slice_index_or starts p false then chain file p else []
