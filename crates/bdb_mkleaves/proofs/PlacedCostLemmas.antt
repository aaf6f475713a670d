-- What the entries of a unit take of their leaf.
use Rattle.std.proofs.Common.{◌≡◌, ℕ, ◌+◌, ◌/◌, Bool, false, List, [], ◌∷◌, length, map, arith, refl, ◌∙◌, ap, All, flat_map, sum_by}
use Rattle.bdb_mkleaves.proofs.Common.{le-leb, lt-leb, All-head, All-tail, sum_by-cons, Order, Chain, Content, Inline, Set, Tree, Unknown, pad4, length-leaf_chain, length-leaf_inline}
use Rattle.bdb_mkleaves.proofs.Common.{length-leaf_tree, Entry, entry_cost, item_cost, own_entry, shared_entry, value_cost, IsStoredBySize, PlacedEntry, PlacedPairs, PlacedTree, StandsBySize}
use Rattle.bdb_mkleaves.proofs.Common.{UnitsCost, ValueItem, further_entries, tree_item}

content_cost : (order : Order) (size : ℕ) (content : Content) (deleted : Bool) (value : List ℕ) → StandsBySize size content value
    → item_cost order (record { content = content; deleted = deleted }) ≡ value_cost size value
content_cost order size (Inline bytes) deleted value stands =
    rw (length-leaf_inline order bytes deleted, stands.0, le-leb (length value) (size / 8) stands.1) refl
content_cost order size (Chain head total) deleted value stands = rw (length-leaf_chain order head total deleted, lt-leb (length value) (size / 8) stands) refl
content_cost order size (Set blocks) deleted value stands = absurd stands
content_cost order size (Tree root) deleted value stands = absurd stands
content_cost order size Unknown deleted value stands = absurd stands

stored_cost : (order : Order) (size : ℕ) (stored : ValueItem) → IsStoredBySize size stored
    → item_cost order stored.item ≡ value_cost size stored.value
stored_cost order size stored stands = content_cost order size stored.item.content stored.item.deleted stored.value stands

pub tree_cost : (order : Order) (root : ℕ) → item_cost order (tree_item root) ≡ 12
tree_cost order root = ap pad4 (length-leaf_tree order root false)

two_entries : (order : Order) (a b : Entry) (rest : List Entry)
    → sum_by (entry_cost order) (a ∷ b ∷ rest) ≡ entry_cost order a + (entry_cost order b + sum_by (entry_cost order) rest)
two_entries order a b rest = sum_by-cons (entry_cost order) a (b ∷ rest) ∙ ap (λ n. entry_cost order a + n) (sum_by-cons (entry_cost order) b rest)

-- the values of data
abbrev values_of : List ValueItem → List (List ℕ)
values_of data_items = map (λ (datum : ValueItem). datum.value) data_items

further_cost : (order : Order) (size : ℕ) (key : ValueItem) (more : List ValueItem) → All (IsStoredBySize size) more
    → sum_by (entry_cost order) (flat_map (further_entries key) more) ≡ sum_by (λ value. 4 + value_cost size value) (values_of more)
further_cost order size key [] all = refl
further_cost order size key (datum ∷ more) all =
    two_entries order (shared_entry key.item) (own_entry datum.item) (flat_map (further_entries key) more)
    ∙ omega (
      arith,
      stored_cost order size datum (All-head (IsStoredBySize size) datum more all),
      further_cost order size key more (All-tail (IsStoredBySize size) datum more all),
      sum_by-cons (λ value. 4 + value_cost size value) datum.value (values_of more),
    )

pub units_cost : UnitsCost
units_cost order size (PlacedEntry entry) placed = sum_by-cons (entry_cost order) (own_entry entry.item) [] ∙ omega (arith, stored_cost order size entry placed)
units_cost order size (PlacedPairs key first more) placed =
    two_entries order (own_entry key.item) (own_entry first.item) (flat_map (further_entries key) more)
    ∙ rw placed.2 (omega (
      arith,
      stored_cost order size key placed.0,
      stored_cost order size first (All-head (IsStoredBySize size) first more placed.1),
      further_cost order size key more (All-tail (IsStoredBySize size) first more placed.1),
      sum_by-cons (λ value. 4 + value_cost size value) first.value (values_of more),
    ))
units_cost order size (PlacedTree key root values) placed = grind (arith, two_entries, stored_cost, tree_cost)
