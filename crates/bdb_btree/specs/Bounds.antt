-- What is kept of an internal page while its items are gone through: enough to decide its separators.
use Rattle.std.specs.Prelude.{◌≡◌, ℕ, ◌||◌, if◌then◌else◌, Bool, true, false, List, [], ◌∷◌, Option, Some, None}
use Rattle.std.specs.List.{Contains, fold, slice_get}
use Rattle.bdb_ranks.specs.of_format.Terms.{File, InternalItem, Separated, StoredPair, less, tree_pairs, value_of}
use Rattle.bdb_ranks.specs.of_overflow.Datum.{FitsContent}
use Rattle.bdb_ranks.specs.of_tree.Trees.{IsTreePage}
use Rattle.bdb_ranks.specs.Order.{is_not_above}

-- the key of the last item above index 0, the greatest of the keys below the items so far, and whether a condition failed
pub record Bounds : Type 0 where
  pub separator : Option (List ℕ)
  pub greatest : Option (List ℕ)
  pub wrong : Bool

abbrev pub no_bounds : Bounds
no_bounds = record { separator = None; greatest = None; wrong = false }

-- a value is below the bound, where there is one
abbrev pub is_below : Option (List ℕ) → List ℕ → Bool
is_below None value = false
is_below (Some bound) value = less value bound

abbrev pub greater_of : Option (List ℕ) → List ℕ → Option (List ℕ)
greater_of None value = Some value
greater_of (Some bound) value = if less bound value then Some value else Some bound

-- a key below the last item
abbrev pub under : Bounds → List ℕ → Bounds
under bounds key = record {
  separator = bounds.separator;
  greatest = greater_of bounds.greatest key;
  wrong = bounds.wrong || is_below bounds.separator key;
}

abbrev pub under_pair : Bounds → StoredPair → Bounds
under_pair bounds pair = under bounds pair.key

-- the key of the next item
abbrev pub beyond : Bounds → List ℕ → Bounds
beyond bounds key = record {
  separator = Some key;
  greatest = bounds.greatest;
  wrong = bounds.wrong || (is_not_above bounds.separator key || is_not_above bounds.greatest key);
}

-- an item above index 0, and the keys below it
abbrev pub past : Bounds → Separated → Bounds
past bounds part = fold under (beyond bounds part.key) part.below

-- all items of a page, the key of the first of which isn't compared
abbrev pub bounds_of : List Separated → Bounds
bounds_of [] = no_bounds
bounds_of (part ∷ parts) = fold past (fold under no_bounds part.below) parts

-- an item as it is read: its key, unless it's the first, and all keys below it
abbrev pub see_item : File → Bool → Bounds → InternalItem → Bounds
see_item file first bounds item =
    fold under_pair (if first then bounds else beyond bounds (value_of file item.key)) (tree_pairs file item.child)

abbrev pub see_items : File → Bounds → List InternalItem → Bounds
see_items file bounds [] = bounds
see_items file bounds (item ∷ items) = fold (see_item file false) (see_item file true bounds item) items

-- what an item names is there
pub record ItemFits (file : File) (item : InternalItem) : Type 0 where
  pub key : FitsContent file item.key
  pub child : IsTreePage file item.child

abbrev pub ItemsFit : File → List InternalItem → Type 0
ItemsFit file items = (i : ℕ) (item : InternalItem) → slice_get items i ≡ Some item → ItemFits file item

-- The least and the greatest of keys, which tell of them what separators ask.

abbrev pub lesser_of : Option (List ℕ) → List ℕ → Option (List ℕ)
lesser_of None value = Some value
lesser_of (Some bound) value = if less value bound then Some value else Some bound

-- the least and the greatest of some keys, if there are any
pub record Ends : Type 0 where
  pub least : Option (List ℕ)
  pub greatest : Option (List ℕ)

abbrev pub no_ends : Ends
no_ends = record { least = None; greatest = None }

-- those of one key
abbrev pub one_key : List ℕ → Ends
one_key key = record { least = Some key; greatest = Some key }

-- one more key
abbrev pub widen_by : Ends → StoredPair → Ends
widen_by ends pair = record { least = lesser_of ends.least pair.key; greatest = greater_of ends.greatest pair.key }

-- those of these pairs
abbrev pub ends_of : List StoredPair → Ends
ends_of pairs = fold widen_by no_ends pairs

-- where a second value may be missing
abbrev pub least_of : Option (List ℕ) → Option (List ℕ) → Option (List ℕ)
least_of a None = a
least_of a (Some value) = lesser_of a value

abbrev pub greatest_of : Option (List ℕ) → Option (List ℕ) → Option (List ℕ)
greatest_of a None = a
greatest_of a (Some value) = greater_of a value

-- more keys, of which the ends are known
abbrev pub joined : Ends → Ends → Ends
joined ends more = record { least = least_of ends.least more.least; greatest = greatest_of ends.greatest more.greatest }

abbrev pub is_any_below : Option (List ℕ) → Option (List ℕ) → Bool
is_any_below bound None = false
is_any_below bound (Some least) = is_below bound least

-- keys below the last item, of which the ends are known
abbrev pub under_ends : Bounds → Ends → Bounds
under_ends bounds ends = record {
  separator = bounds.separator;
  greatest = greatest_of bounds.greatest ends.greatest;
  wrong = bounds.wrong || is_any_below bounds.separator ends.least;
}

-- Where keys are in order.

-- no later key is less than this one
abbrev pub NoneBelow : List ℕ → List StoredPair → Type 0
NoneBelow key pairs = (pair : StoredPair) → Contains pairs pair → less pair.key key ≡ false

-- no key is less than an earlier one
abbrev pub DontFall : List StoredPair → Type 0
DontFall [] = Unit {0}
DontFall (pair ∷ pairs) = NoneBelow pair.key pairs × DontFall pairs

-- the keys below a page don't fall, where this is told
abbrev pub OrderedIf : Bool → File → ℕ → Type 0
OrderedIf ordered file p = ordered ≡ true → DontFall (tree_pairs file p)
