-- Pairs as the code has them, and what is left of a walk over them. Source: docs/FORMAT.md, "Items".
use Rattle.std.specs.Prelude.{ℕ, not, List, [], ◌∷◌, ◌++◌, Option, Some, None}
use Rattle.std.specs.List.{flat_map}
use Rattle.bdb_ranks.specs.of_format.Terms.{Chain, Content, File, Inline, Item, Set, StoredPair, Tree, Unknown, pairs_of, value_of}
use Rattle.bdb_ranks.specs.of_form.Pairs.{PairOf}
use Rattle.bdb_ranks.specs.of_layout.Seen.{leaf_item_seen}
use Rattle.bdb_ranks.specs.of_image.Linked.{FitsDupRoot, FitsLeafPage}
use Rattle.bdb_ranks.specs.of_overflow.Datum.{FitsContent, datum_seen}
use Rattle.bdb_btree.specs.declared.pair.Pair.{Pair}

-- a pair without where its bytes lie
abbrev pub pair_seen : Pair → StoredPair
pair_seen pair = record {
  page = pair.page;
  key = datum_seen pair.key;
  data_item = (leaf_item_seen pair.item).content;
  live = pair.live;
  shares = pair.shares;
}

-- a set off the page has the root of a tree of data
abbrev pub FitsSet : File → Content → Type 0
FitsSet file (Inline bytes) = Unit {0}
FitsSet file (Set blocks) = Unit {0}
FitsSet file (Chain head total) = Unit {0}
FitsSet file (Tree root) = FitsDupRoot file root
FitsSet file Unknown = Unit {0}

-- what a data item names is there
pub record FitsPair (file : File) (pair : StoredPair) : Type 0 where
  pub content : FitsContent file pair.data_item
  pub set : FitsSet file pair.data_item

-- a pair as the view of its leaf gives it
abbrev pub stored_pair : File → ℕ → PairOf Item → StoredPair
stored_pair file p pair = record {
  page = p;
  key = value_of file pair.key.content;
  data_item = pair.value.content;
  live = not pair.value.deleted;
  shares = pair.shares;
}

-- a fact of each one of a list
abbrev pub Each : {X : Type 0} → (X → Type 0) → List X → Type 0
Each P [] = Unit {0}
Each P (x ∷ xs) = P x × Each P xs

-- what the keys of these pairs name is there
abbrev pub KeysFit : File → List (PairOf Item) → Type 0
KeysFit file pairs = Each (λ (pair : PairOf Item). FitsContent file pair.key.content) pairs

-- what is left of a walk, if one goes on
abbrev pub left_of : {X : Type 0} → Option (List X) → List X
left_of None = []
left_of (Some left) = left

-- the pairs that are left of a walk: those of this leaf, and those of the leaves after it
abbrev pub pairs_left : File → Option (List StoredPair) → List ℕ → List StoredPair
pairs_left file here leaves = left_of here ++ flat_map (pairs_of file) leaves

-- each of these pages is a leaf
abbrev pub AreLeaves : File → List ℕ → Type 0
AreLeaves file leaves = Each (FitsLeafPage file) leaves

-- what each of these pairs names is there
abbrev pub AreFit : File → List StoredPair → Type 0
AreFit file pairs = Each (FitsPair file) pairs
