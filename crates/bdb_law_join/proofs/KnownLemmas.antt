-- The pairs of a page of sound form hold items of known kinds.
use Rattle.std.proofs.Common.{◌≡◌, ℕ, ◌*◌, ◌/◌, Bool, true, false, cond, List, [], length, map, None, arith, refl, ap, subst, inl, inr, ◌&&◌, ◌||◌}
use Rattle.std.specs.List.{Contains, range_with_len}
use Rattle.std.proofs.lemmas.Bool.{cases_Bool, not-false}
use Rattle.std.proofs.lemmas.List.FromFn.{get_or-map-range_with_len, length-map-range_with_len}
use Rattle.bdb_graph.specs.of_format.declared.kinds.Order.{Order}
use Rattle.bdb_graph.specs.of_format.declared.metadata.Head.{Head}
use Rattle.bdb_graph.specs.of_format.Terms.{Chain, Content, File, Inline, Item, Listed, Set, StoredPair, Tree, Unknown, abstract_page, byte_at, first_row}
use Rattle.bdb_graph.specs.of_format.Terms.{form_code, hash_item_at, hash_rows, is_shared_key, is_zero, item_rows, leaf_item_at, leaf_rows, listed}
use Rattle.bdb_graph.specs.of_format.Terms.{listed_code, page_as, page_type, pair_at, pairs_in, typed_code}
use Rattle.bdb_graph.specs.of_format.declared.pages.PageType.{PageType}
use Rattle.bdb_graph.specs.of_format.declared.pages.PageType.TheVariants.{Hash as HashPage, Leaf as LeafPage}
use Rattle.bdb_graph.proofs.of_format.GraphLemmas.{typed_none, typed_page, zero_page}
use Rattle.bdb_graph.proofs.of_format.ItemLemmas.{no_item_row}
use Rattle.bdb_graph.proofs.of_format.MemberLemmas.{no_member, of_map, of_range}

-- content of a known kind
abbrev pub IsKnown : Content → Type 0
IsKnown content = content ≡ Unknown → ⊥

-- One item.

leaf_kinds : (a b c typed odd : Bool) (bytes : List ℕ) (root head total : ℕ) → (a || c || (b && typed && odd)) ≡ true
    → IsKnown (cond a (Inline bytes) (cond b (Tree root) (cond c (Chain head total) Unknown)))
leaf_kinds true b c typed odd bytes root head total may same = cc
leaf_kinds false true c typed odd bytes root head total may same = cc
leaf_kinds false false true typed odd bytes root head total may same = cc
leaf_kinds false false false typed odd bytes root head total may same = cc

leaf_known : (order : Order) (page : List ℕ) (i : ℕ) → first_row (leaf_rows order page i) ≡ None → IsKnown (leaf_item_at order page i).content
unfolding leaf_rows leaf_item_at
leaf_known order page i none = grind (arith, leaf_kinds, not-false)

hash_kinds : (a b c d odd : Bool) (bytes : List ℕ) (blocks : List (List ℕ)) (head total root : ℕ) → (a || c || (odd && (b || d))) ≡ true
    → IsKnown (cond a (Inline bytes) (cond b (Set blocks) (cond c (Chain head total) (cond d (Tree root) Unknown))))
hash_kinds true b c d odd bytes blocks head total root may same = cc
hash_kinds false true c d odd bytes blocks head total root may same = cc
hash_kinds false false true d odd bytes blocks head total root may same = cc
hash_kinds false false false true odd bytes blocks head total root may same = cc
hash_kinds false false false false true bytes blocks head total root may same = cc
hash_kinds false false false false false bytes blocks head total root may same = cc

hash_known : (order : Order) (page : List ℕ) (i : ℕ) → first_row (hash_rows order page i) ≡ None → IsKnown (hash_item_at order page i).content
unfolding hash_rows hash_item_at
hash_known order page i none = grind (arith, hash_kinds, not-false)

-- The pairs of a page.

-- a page with an index, none of whose items has a row that holds
indexed_known : (file : File) (p : ℕ) (order : Order) (page : List ℕ) (t : PageType) (item : ℕ → Item) (shares : Listed Item → ℕ → Bool)
    (pair : StoredPair) → listed_code order page t ≡ None
    → ((i : ℕ) → first_row (item_rows t order page i) ≡ None → IsKnown (item i).content)
    → Contains (map (pair_at file p (listed order page item) (shares (listed order page item)))
    (range_with_len 0 (length (listed order page item).items / 2))) pair → IsKnown pair.data_item
unfolding listed
indexed_known file p order page t item shares pair none each at =
    grind (arith, of_map, of_range, length-map-range_with_len, get_or-map-range_with_len, no_item_row)

typed_known : (file : File) (head : Head) (p : ℕ) (page : List ℕ) (t : PageType) (pair : StoredPair) → typed_code head p page t ≡ None
    → Contains (pairs_in file p (page_as head.order page t)) pair → IsKnown pair.data_item
typed_known file head p page LeafPage pair none at =
    indexed_known file p head.order page LeafPage (leaf_item_at head.order page) (λ leaf i. is_shared_key leaf.offsets (2 * i)) pair none
    (leaf_known head.order page) at
typed_known file head p page HashPage pair none at =
    indexed_known file p head.order page HashPage (hash_item_at head.order page) (λ leaf i. false) pair none (hash_known head.order page) at
typed_known file head p page t pair none at = absurd (no_member [] pair refl at)

-- no pair of a page of sound form holds an unknown item
pub pairs_known : (file : File) (head : Head) (p : ℕ) (page : List ℕ) (pair : StoredPair) → form_code head p page ≡ None
    → Contains (pairs_in file p (abstract_page head.order page)) pair → IsKnown pair.data_item
pairs_known file head p page pair none at =
    elim (cases_Bool (is_zero page)) [
      | inl zeros ↦
          absurd (no_member (pairs_in file p (abstract_page head.order page)) pair (ap (pairs_in file p) (zero_page head.order page zeros)) at)
      | inr some ↦
          typed_known file head p page (page_type (byte_at page 25)) pair (typed_none head p page some none)
          (subst (λ read. Contains (pairs_in file p read) pair) (typed_page head.order page some) at)
    ]
