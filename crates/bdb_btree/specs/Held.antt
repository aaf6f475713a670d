-- Pairs of leaves as their items hold them, and what is kept of them. Source: docs/FORMAT.md, "Items".
use Rattle.std.specs.Prelude.{ℕ, not, Bool, true, List, [], ◌++◌, map, Option}
use Rattle.std.specs.List.{flat_map}
use Rattle.std.specs.Option.{option_map}
use Rattle.bdb_ranks.specs.of_format.Terms.{File, Item, Leaf, Page, StoredPair, leaves, no_item, page_at, value_of}
use Rattle.bdb_ranks.specs.of_form.Pairs.{PairOf, pairs_from}
use Rattle.bdb_ranks.specs.of_layout.Seen.{leaf_item_seen}
use Rattle.bdb_ranks.specs.of_overflow.Datum.{FitsContent}
use Rattle.bdb_ranks.specs.of_overflow.Held.{FitsAny, value_held}
use Rattle.bdb_btree.specs.Bounds.{Bounds, Ends, greater_of, lesser_of}
use Rattle.bdb_btree.specs.Pairs.{Each, left_of}
use Rattle.bdb_btree.specs.Rows.{Passed}
use Rattle.bdb_btree.specs.Runs.{KeyOrder, Ascent}
use Rattle.bdb_btree.specs.declared.data_order.Ascent.{Ascent as CodeAscent}
use Rattle.bdb_btree.specs.declared.ends.End.{End}
use Rattle.bdb_btree.specs.declared.ends.End.TheVariants.{Least, Greatest}
use Rattle.bdb_btree.specs.declared.ends.Ends.{Ends as CodeEnds}
use Rattle.bdb_btree.specs.declared.held.HeldPair.{HeldPair}
use Rattle.bdb_btree.specs.declared.order.KeyOrder.{KeyOrder as CodeKeyOrder}
use Rattle.bdb_btree.specs.declared.pair_rows.Passed.{Passed as CodePassed}
use Rattle.bdb_btree.specs.declared.separators.Bounds.{Bounds as CodeBounds}

-- a pair of a leaf, by its items
pub record ItemPair : Type 0 where
  pub page : ℕ
  pub key : Item
  pub value : Item
  pub shares : Bool

abbrev pub pair_held : HeldPair → ItemPair
pair_held pair = record { page = pair.page; key = leaf_item_seen pair.key; value = leaf_item_seen pair.value; shares = pair.shares }

-- the pair with the value of its key
abbrev pub stored_as : File → ItemPair → StoredPair
stored_as file pair = record {
  page = pair.page;
  key = value_of file pair.key.content;
  data_item = pair.value.content;
  live = not pair.value.deleted;
  shares = pair.shares;
}

-- the pair without its key, for rows that don't look at that
abbrev pub without_key : ItemPair → StoredPair
without_key pair = record { page = pair.page; key = []; data_item = pair.value.content; live = not pair.value.deleted; shares = pair.shares }

abbrev pub at_page : ℕ → PairOf Item → ItemPair
at_page p pair = record { page = p; key = pair.key; value = pair.value; shares = pair.shares }

-- the pairs of a leaf
abbrev pub items_in : ℕ → Page → List ItemPair
items_in p (Leaf leaf) = map (at_page p) (pairs_from no_item true leaf 0)
items_in p page = []

abbrev pub items_of : File → ℕ → List ItemPair
items_of file p = items_in p (page_at file p)

-- the pairs of the leaves of a tree
abbrev pub tree_items : File → ℕ → List ItemPair
tree_items file root = flat_map (items_of file) (leaves file root)

-- the pairs that are left of a walk: those of this leaf, and those of the leaves after it
abbrev pub items_left : File → Option (List ItemPair) → List ℕ → List ItemPair
items_left file here leaves = left_of here ++ flat_map (items_of file) leaves

-- what the keys of these pairs name is there
abbrev pub AreKeyed : File → List ItemPair → Type 0
AreKeyed file pairs = Each (λ (pair : ItemPair). FitsContent file pair.key.content) pairs

-- What is kept of pairs, by the values of their items.

abbrev pub keys_seen : File → CodeKeyOrder → KeyOrder
keys_seen file keys = record { before = option_map (value_held file) keys.before; wrong = keys.wrong; ordered = keys.ordered }

abbrev pub run_seen : File → CodeAscent → Ascent
run_seen file run = record { last = option_map (value_held file) run.last; broken = run.broken }

abbrev pub passed_seen : File → CodePassed → Passed
passed_seen file passed = record { keys = keys_seen file passed.keys; values = run_seen file passed.values }

-- what is kept is there
pub record FitsPassed (file : File) (passed : CodePassed) : Type 0 where
  pub key : FitsAny file passed.keys.before
  pub value : FitsAny file passed.values.last

abbrev pub bounds_seen : File → CodeBounds → Bounds
bounds_seen file bounds = record {
  separator = option_map (value_held file) bounds.separator;
  greatest = option_map (value_held file) bounds.ends.greatest;
  wrong = bounds.wrong;
}

-- the lesser of two values, or the greater one, as the end is
abbrev pub end_of : End → Option (List ℕ) → List ℕ → Option (List ℕ)
end_of Least = lesser_of
end_of Greatest = greater_of

abbrev pub ends_seen : File → CodeEnds → Ends
ends_seen file ends = record { least = option_map (value_held file) ends.least; greatest = option_map (value_held file) ends.greatest }

pub record FitsEnds (file : File) (ends : CodeEnds) : Type 0 where
  pub least : FitsAny file ends.least
  pub greatest : FitsAny file ends.greatest

pub record FitsBounds (file : File) (bounds : CodeBounds) : Type 0 where
  pub separator : FitsAny file bounds.separator
  pub ends : FitsEnds file bounds.ends
