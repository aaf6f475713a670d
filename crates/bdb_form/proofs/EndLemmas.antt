-- Where the items of a page lie of which no row holds.
use Rattle.std.proofs.Common.{◌≡◌, ◌∙◌, ◌⊎◌, inl, inr, ℕ, ◌+◌, ◌<◌, ◌≤◌, List, length, ap, arith, refl, ◌==◌, cond, slice_range, Bool, true, false, None}
use Rattle.std.proofs.lemmas.Bool.{eq-eqb, ne_eqb}
use Rattle.std.proofs.lemmas.Bool.Decides.{nat_tests}
use Rattle.bdb_layout.specs.of_format.declared.kinds.Order.{Order}
use Rattle.bdb_layout.specs.of_format.declared.pages.PageType.{PageType}
use Rattle.bdb_layout.specs.of_format.declared.pages.PageType.TheVariants.{Internal as InternalPage, RecnoInternal as RecnoInternalPage}
use Rattle.bdb_layout.specs.of_format.Terms.{Chain, Content, Inline, Tree, entries_of, first_row, four_at, index_end, internal_end, internal_item_at}
use Rattle.bdb_layout.specs.of_format.Terms.{internal_key, internal_rows, item_rows, kind_at, leaf_content, leaf_end, leaf_item_at, leaf_rows, listed_code}
use Rattle.bdb_layout.specs.of_format.Terms.{offset_of, recno_end, recno_rows, two_at}
use Rattle.bdb_layout.proofs.of_format.ItemLemmas.{no_index_row, no_item_row}
use Rattle.bdb_layout.proofs.of_format.TurnLemmas.{length-slice_range}
use Rattle.bdb_layout.specs.Fits.{FitsInternal, FitsLeaf}
use Rattle.bdb_layout.proofs.RowLemmas.{internal_fits, leaf_fits}
use Rattle.bdb_form.specs.Ends.{ArePlaced, IsPlaced, internal_item_end, leaf_item_end}
use Rattle.bdb_form.proofs.FormedLemmas.{index_room}

leaf_placed : (order : Order) (page : List ℕ) (i : ℕ) → first_row (leaf_rows order page i) ≡ None
    → IsPlaced (index_end order page) (length page) 3 (offset_of order page i) (leaf_end order page (offset_of order page i))
unfolding leaf_rows
leaf_placed order page i none = record {
  behind = grind (arith, nat_tests, none);
  room = grind (arith, nat_tests, none);
  some = some_in (kind_at page (offset_of order page i) == 1) (offset_of order page i) (two_at order page (offset_of order page i));
  within = grind (arith, nat_tests, none);
}
  where
    some_in : (inline : Bool) (at n : ℕ) → at < cond inline (at + 3 + n) (at + 12)
    some_in true at n = omega arith
    some_in false at n = omega arith

internal_placed : (order : Order) (page : List ℕ) (i : ℕ) → first_row (internal_rows order page i) ≡ None
    → IsPlaced (index_end order page) (length page) 12 (offset_of order page i) (internal_end order page (offset_of order page i))
unfolding internal_rows
internal_placed order page i none = record {
  behind = grind (arith, nat_tests, none);
  room = grind (arith, nat_tests, none);
  some = omega arith;
  within = grind (arith, nat_tests, none);
}

recno_placed : (order : Order) (page : List ℕ) (i : ℕ) → first_row (recno_rows order page i) ≡ None
    → IsPlaced (index_end order page) (length page) 8 (offset_of order page i) (recno_end order page (offset_of order page i))
unfolding recno_rows
recno_placed order page i none = record {
  behind = grind (arith, nat_tests, none);
  room = grind (arith, nat_tests, none);
  some = omega arith;
  within = grind (arith, nat_tests, none);
}

-- Where no row of a page holds, its index and its items lie on it.

pub listed_index : (t : PageType) (order : Order) (page : List ℕ) → listed_code order page t ≡ None → index_end order page ≤ length page
listed_index t order page none = index_room t order page (no_index_row order page t none)

pub leaves_placed : (t : PageType) (order : Order) (page : List ℕ) → ((i : ℕ) → item_rows t order page i ≡ leaf_rows order page i)
    → listed_code order page t ≡ None → ArePlaced order page 3 (leaf_end order page)
leaves_placed t order page are none = λ i lt. leaf_placed order page i (rw (← are i) (no_item_row order page t i none lt))

pub internals_placed : (order : Order) (page : List ℕ) → listed_code order page InternalPage ≡ None → ArePlaced order page 12 (internal_end order page)
internals_placed order page none = λ i lt. internal_placed order page i (no_item_row order page InternalPage i none lt)

pub recnos_placed : (order : Order) (page : List ℕ) → listed_code order page RecnoInternalPage ≡ None → ArePlaced order page 8 (recno_end order page)
recnos_placed order page none = λ i lt. recno_placed order page i (no_item_row order page RecnoInternalPage i none lt)

-- no row of an item holds where none of its page does
pub has_rows : (order : Order) (page : List ℕ) (t : PageType) → listed_code order page t ≡ None
    → (i : ℕ) → i < entries_of order page → first_row (item_rows t order page i) ≡ None
has_rows order page t none i lt = no_item_row order page t i none lt

-- Where an item of which no row holds ends, by its bytes and by what it holds.

-- what the rows say of an item
content_is : (order : Order) (page : List ℕ) (i : ℕ) → (leaf_item_at order page i).content ≡ leaf_content order page (offset_of order page i)
    (kind_at page (offset_of order page i))
unfolding leaf_item_at
content_is order page i = refl

-- an item by its kind
pub data KindCase (order : Order) (page : List ℕ) (at : ℕ) (content : Content) : Type 0 where
  IsInline : kind_at page at ≡ 1 → content ≡ Inline (slice_range page (at + 3) (at + 3 + two_at order page at)) → at + 3 + two_at order page at ≤ length page
      → KindCase order page at content
  IsTree : kind_at page at ≡ 2 → content ≡ Tree (four_at order page (at + 4)) → at + 12 ≤ length page → KindCase order page at content
  IsChain : kind_at page at ≡ 3 → content ≡ Chain (four_at order page (at + 4)) (four_at order page (at + 8)) → at + 12 ≤ length page
      → KindCase order page at content

one_to_three : (k : ℕ) → 1 ≤ k → k ≤ 3 → (k ≡ 1) ⊎ ((k ≡ 2) ⊎ (k ≡ 3))
one_to_three k low high = grind arith

pub kind_case : (order : Order) (page : List ℕ) (i : ℕ) → first_row (leaf_rows order page i) ≡ None
    → KindCase order page (offset_of order page i) (leaf_item_at order page i).content
kind_case order page i none =
    let at : ℕ = offset_of order page i in
    let fits : FitsLeaf order page at = leaf_fits order page i none in
    elim (one_to_three (kind_at page at) fits.least fits.most) [
      | inl one ↦ IsInline one (content_is order page i ∙ ap (leaf_content order page at) one) (fits.inline one)
      | inr (inl two) ↦ IsTree two (content_is order page i ∙ ap (leaf_content order page at) two) (fits.other (omega arith))
      | inr (inr three) ↦ IsChain three (content_is order page i ∙ ap (leaf_content order page at) three) (fits.other (omega arith))
    ]

key_is : (order : Order) (page : List ℕ) (i : ℕ) → (internal_item_at order page i).key ≡ internal_key order page (offset_of order page i)
    (kind_at page (offset_of order page i))
unfolding internal_item_at
key_is order page i = refl

-- a key by its kind
pub data KeyCase (order : Order) (page : List ℕ) (at : ℕ) (key : Content) : Type 0 where
  KeyInline : kind_at page at ≡ 1 → key ≡ Inline (slice_range page (at + 12) (at + 12 + two_at order page at)) → at + 12 + two_at order page at ≤ length page
      → KeyCase order page at key
  KeyChain : kind_at page at ≡ 3 → key ≡ Chain (four_at order page (at + 16)) (four_at order page (at + 20)) → at + 24 ≤ length page → KeyCase order page at key

pub key_case : (order : Order) (page : List ℕ) (i : ℕ) → first_row (internal_rows order page i) ≡ None
    → KeyCase order page (offset_of order page i) (internal_item_at order page i).key
key_case order page i none =
    let at : ℕ = offset_of order page i in
    let fits : FitsInternal order page at = internal_fits order page i none in
    let within : at + 12 + two_at order page at ≤ length page = fits.within in
    elim fits.kind [
      | inl one ↦ KeyInline one (key_is order page i ∙ ap (internal_key order page at) one) within
      | inr three ↦ let size : two_at order page at ≡ 12 = three.1 in KeyChain three.0 (key_is order page i ∙ ap (internal_key order page at) three.0)
          (omega arith)
    ]

pub end_of_leaf_item : (order : Order) (page : List ℕ) (i : ℕ) → first_row (leaf_rows order page i) ≡ None
    → leaf_item_end (offset_of order page i) (leaf_item_at order page i).content ≡ leaf_end order page (offset_of order page i)
end_of_leaf_item order page i none =
    let at : ℕ = offset_of order page i in
    elim (kind_case order page i none) [
      | IsInline kind is inside ↦
          let one : (kind_at page at == 1) ≡ true = eq-eqb (kind_at page at) 1 kind in
          ap (leaf_item_end at) is
          ∙ rw one (ap (λ (m : ℕ). at + 3 + m) (length-slice_range page (at + 3) (at + 3 + two_at order page at) inside ∙ omega arith))
      | IsTree kind is inside ↦
          let other : (kind_at page at == 1) ≡ false = ne_eqb (kind_at page at) 1 (λ same. omega arith) in ap (leaf_item_end at) is ∙ rw other refl
      | IsChain kind is inside ↦
          let other : (kind_at page at == 1) ≡ false = ne_eqb (kind_at page at) 1 (λ same. omega arith) in ap (leaf_item_end at) is ∙ rw other refl
    ]

pub end_of_internal_item : (order : Order) (page : List ℕ) (i : ℕ) → first_row (internal_rows order page i) ≡ None
    → internal_item_end (offset_of order page i) (internal_item_at order page i).key ≡ internal_end order page (offset_of order page i)
end_of_internal_item order page i none =
    let at : ℕ = offset_of order page i in
    elim (key_case order page i none) [
      | KeyInline kind is inside ↦
          ap (internal_item_end at) is ∙ ap (λ (m : ℕ). at + 12 + m) (length-slice_range page (at + 12) (at + 12 + two_at order page at) inside ∙ omega arith)
      | KeyChain kind is inside ↦
          let twelve : two_at order page at ≡ 12 = twelve_of (internal_fits order page i none).kind kind in ap (internal_item_end at) is ∙ omega arith
    ]
  where
    twelve_of : {kind long : ℕ} → (kind ≡ 1) ⊎ ((kind ≡ 3) × (long ≡ 12)) → kind ≡ 3 → long ≡ 12
    twelve_of (inl one) three = absurd (omega arith)
    twelve_of (inr both) three = both.1
