-- Pairs whose keys don't fall: those of a tree where none is out of order, and so those below each of its pages.
use Rattle.std.proofs.Common.{◌≡◌, ℕ, ◌<◌, true, false, List, [], ◌∷◌, ◌++◌, length, get_or, arith, refl, sym, ◌∙◌, ap, subst, inl, inr, true≢false, Bool, not}
use Rattle.std.proofs.Common.{Some, ◌&&◌, slice_index, flat_map, fold, Contains}
use Rattle.std.proofs.lemmas.Bool.{cases_lt, eqb-true, false_from_ne_true}
use Rattle.std.proofs.lemmas.List.{get_or_past}
use Rattle.bdb_ranks.specs.of_format.declared.kinds.Order.{Order}
use Rattle.bdb_ranks.specs.of_format.Terms.{File, Item, Leaf, Listed, Page, StoredPair, abstract_page, children_in, file_of, is_out_of_order, leaf_item_at}
use Rattle.bdb_ranks.specs.of_format.Terms.{leaves, less, listed, neighbours, neighbours_from, no_item, page_as, page_at, pairs_of, tree_pairs}
use Rattle.bdb_ranks.specs.of_format.declared.pages.PageType.{PageType}
use Rattle.bdb_ranks.specs.of_format.declared.pages.PageType.TheVariants.{Leaf as LeafPage}
use Rattle.bdb_ranks.proofs.of_format.PageLemmas.{index_offset, length_items}
use Rattle.bdb_ranks.proofs.of_format.LeafLemmas.{leaf_item_is, one_offset}
use Rattle.std.proofs.lemmas.List.Elements.{Contains-append_left}
use Rattle.bdb_ranks.proofs.of_format.LessLemmas.{less_above, less_not_back, less_self}
use Rattle.bdb_ranks.proofs.of_format.ListLemmas.{flat_map_twice}
use Rattle.bdb_ranks.proofs.of_format.MemberLemmas.{first_member, later_member, member_cases, no_member}
use Rattle.bdb_ranks.proofs.of_format.FileLemmas.{last_page, page_is, pages_counted}
use Rattle.bdb_ranks.specs.of_image.Linked.{IsForest}
use Rattle.bdb_ranks.proofs.of_tree.TreeLemmas.{leaves_of_inner}
use Rattle.bdb_btree.specs.Bounds.{DontFall, NoneBelow, OrderedIf}
use Rattle.bdb_btree.specs.Rows.{Passed, next_pair, no_pairs_passed}
use Rattle.bdb_btree.proofs.OrderLemmas.{Shares, all_in_order, keys_alone}
use Rattle.bdb_btree.proofs.PairLemmas.{PageShares, pages_share}
use Rattle.bdb_ranks.proofs.of_form.FormedLemmas.{shared_after}

-- Entries of a leaf with one offset are one item.

abbrev OffsetsTell : Listed Item → Type 0
OffsetsTell leaf =
    (i j : ℕ) → i < length leaf.items → j < length leaf.items → slice_index leaf.offsets i ≡ slice_index leaf.offsets j
    → get_or leaf.items i no_item ≡ get_or leaf.items j no_item

abbrev OffsetsTellIn : Page → Type 0
OffsetsTellIn (Leaf leaf) = OffsetsTell leaf
OffsetsTellIn page = Unit {0}

leaf_tells : (order : Order) (page : List ℕ) → OffsetsTell (listed order page (leaf_item_at order page))
leaf_tells order page i j low also same = grind (arith, length_items, leaf_item_is, one_offset, index_offset)

type_tells : (order : Order) (page : List ℕ) (t : PageType) → OffsetsTellIn (page_as order page t)
type_tells order page LeafPage = leaf_tells order page
type_tells order page t = tt

page_tells : (order : Order) (page : List ℕ) → OffsetsTellIn (abstract_page order page)
unfolding abstract_page
page_tells order page = grind (arith, type_tells)

file_tells : (image : List ℕ) (p : ℕ) → OffsetsTellIn (page_at (file_of image) p)
file_tells image p = grind (arith, cases_lt, get_or_past, pages_counted, last_page, page_is, page_tells)

-- Pairs that share their key.

-- each pair that shares its key has the key before it
abbrev pub ShareKeys : List ℕ → List StoredPair → Type 0
ShareKeys key pairs = Shares (λ (pair : StoredPair). pair.key) key pairs

same_keys : (file : File) (p : ℕ) (page : Page) → OffsetsTellIn page → PageShares (λ (pair : StoredPair). pair.key) file p page
same_keys file p (Leaf leaf) tell = grind (arith, eqb-true, shared_after)
same_keys file p page tell = tt

pub tree_keys : (image : List ℕ) (root : ℕ) (key : List ℕ) → ShareKeys key (tree_pairs (file_of image) root)
unfolding tree_pairs
tree_keys image root key = grind (arith, pages_share, same_keys, file_tells)

-- Pairs whose keys don't fall.

none_below_more : (key : List ℕ) (pair : StoredPair) (pairs : List StoredPair) → less pair.key key ≡ false → NoneBelow pair.key pairs
    → NoneBelow key (pair ∷ pairs)
none_below_more key pair pairs here after other at =
    elim (member_cases pair pairs other at) [
      | inl same ↦ subst (λ (one : StoredPair). less one.key key ≡ false) same here
      | inr later ↦ false_from_ne_true (less other.key key) (λ is.
          true≢false (sym (less_above other.key key pair.key is here) ∙ after other later))
    ]

-- two pairs that follow each other, where one that shares its key has the key before it
in_order_step : (a b : List ℕ) (shares : Bool) → (shares ≡ true → a ≡ b) → (not shares && not (less a b)) ≡ false → less b a ≡ false
in_order_step a b true same kept = ap (less b) (same refl) ∙ less_self b
in_order_step a b false same kept = grind (arith, less_not_back a b)

dont_fall_from : (pair : StoredPair) (pairs : List StoredPair) → ShareKeys pair.key pairs
    → ((two : StoredPair × StoredPair) → Contains (neighbours_from pair pairs) two → is_out_of_order two ≡ false)
    → NoneBelow pair.key pairs × DontFall pairs
dont_fall_from pair [] shares kept = (λ other at. absurd (no_member [] other refl at), tt)
dont_fall_from pair (next ∷ pairs) shares kept =
    let after = dont_fall_from next pairs shares.1 (λ two at. kept two (later_member (pair, next) (neighbours_from next pairs) two at)) in (
      none_below_more pair.key next pairs (in_order_step pair.key next.key next.shares shares.0
          (kept (pair, next) (first_member (pair, next) (neighbours_from next pairs)))) after.0,
      after,
    )

pub dont_fall : (pairs : List StoredPair) → ShareKeys [] pairs
    → ((two : StoredPair × StoredPair) → Contains (neighbours pairs) two → is_out_of_order two ≡ false) → DontFall pairs
dont_fall [] shares kept = tt
dont_fall (pair ∷ pairs) shares kept = dont_fall_from pair pairs shares.1 kept

-- where no key was out of order
pub root_ordered : (image : List ℕ) (root : ℕ) (sorted : Bool) (passed : Passed)
    → passed ≡ fold (next_pair (file_of image) sorted) no_pairs_passed (tree_pairs (file_of image) root)
    → OrderedIf passed.keys.ordered (file_of image) root
root_ordered image root sorted passed all ordered = grind (arith, keys_alone, dont_fall, tree_keys, all_in_order)

-- Parts of a list.

fall_parts : (xs ys : List StoredPair) → DontFall (xs ++ ys) → DontFall xs × DontFall ys
fall_parts [] ys fall = (tt, fall)
fall_parts (x ∷ xs) ys fall = let rest = fall_parts xs ys fall.1 in ((λ pair at. fall.0 pair (Contains-append_left xs ys pair at), rest.0), rest.1)

part_falls : (f : ℕ → List StoredPair) (ps : List ℕ) (p : ℕ) → DontFall (flat_map f ps) → Contains ps p → DontFall (f p)
part_falls f [] p fall at = absurd (no_member [] p refl at)
part_falls f (q ∷ ps) p fall at =
    let parts = fall_parts (f q) (flat_map f ps) fall in
    elim (member_cases q ps p at) [ inl same ↦ subst (λ r. DontFall (f r)) same parts.0 | inr later ↦ part_falls f ps p parts.1 later ]

pub child_ordered : (image : List ℕ) (ordered : Bool) (p c : ℕ) (children : List ℕ) → IsForest image → OrderedIf ordered (file_of image) p
    → children_in (page_at (file_of image) p) ≡ Some children → Contains children c
    → OrderedIf ordered (file_of image) c
unfolding tree_pairs
child_ordered image ordered p c children forest is are at told =
    part_falls (tree_pairs (file_of image)) children c
    (subst DontFall (ap (flat_map (pairs_of (file_of image))) (leaves_of_inner image p children forest are)
    ∙ flat_map_twice (pairs_of (file_of image))
    (leaves (file_of image)) children) (is told)) at
