-- What it means for a page with an index that no row of form holds for it.
use Rattle.std.proofs.Common.{[], ◌∷◌, ◌≡◌, ℕ, ◌%◌, ◌<◌, ◌≤◌, List, length, drop, arith, refl, sym, ap, ◌∙◌, ltb-false, nat_eq, eq-eqb, eqb-true, ◌*◌, ◌-◌}
use Rattle.std.proofs.Common.{le-leb, ne_eqb, slice_index, not, ◌==◌, IsTrue, Bool, true, false, Option, Some, None, slice_get, option_map}
use Rattle.bdb_layout.specs.of_format.declared.kinds.Order.{Order}
use Rattle.bdb_layout.specs.of_format.declared.kinds.Order.TheVariants.{Big}
use Rattle.bdb_layout.specs.of_format.Terms.{Queue, body_code, byte_at, code_of, entries_of, first_row, form_row_code, four_at, index_end, index_rows}
use Rattle.bdb_layout.specs.of_format.Terms.{is_queue_type, is_shared_key, is_tree_type, is_wrong_entry_count, is_zero, item_code, item_rows, listed, page_as}
use Rattle.bdb_layout.specs.of_format.Terms.{page_code, page_type, queue_code, ◌:?◌}
use Rattle.bdb_layout.specs.of_format.declared.pages.PageType.{PageType}
use Rattle.bdb_layout.specs.of_format.declared.pages.PageType.TheVariants.{Free as FreePage, Overflow as OverflowPage}
use Rattle.bdb_layout.specs.of_format.declared.pages.ItemFault.{ItemFault}
use Rattle.bdb_layout.specs.of_format.declared.pages.ItemFault.TheVariants.{Offset, Kind, Extent}
use Rattle.bdb_layout.specs.ItemRows.{item_form}
use Rattle.bdb_layout.proofs.of_format.ItemLemmas.{index_passes, no_index_row, no_item_row}
use Rattle.bdb_layout.specs.of_format.declared.pages.Header.{Header}
use Rattle.bdb_layout.proofs.of_format.PageLemmas.{chain_room, zero_header, length_items, get_item, header_listed, index_offset}
use Rattle.bdb_form.specs.Formed.{HoldsData, IsListed}

-- A page with an index.

-- where no row of the index holds, the index lies on the page
pub index_room : (t : PageType) (order : Order) (page : List ℕ) → first_row (index_rows order page t) ≡ None → index_end order page ≤ length page
index_room t order page none = ltb-false _ _ (index_passes order page t none).room

pub listed_room : (t : PageType) (order : Order) (page : List ℕ) → IsListed t order page → index_end order page ≤ length page
listed_room t order page listed = index_room t order page (no_index_row order page t listed.formed)

pub listed_count : (t : PageType) (order : Order) (page : List ℕ) → IsListed t order page → is_wrong_entry_count t (entries_of order page) ≡ false
listed_count t order page listed = (index_passes order page t (no_index_row order page t listed.formed)).entries

-- no row of an item holds
pub sound_item : (t : PageType) (order : Order) (page : List ℕ) (i : ℕ) → IsListed t order page → i < entries_of order page
    → first_row (item_rows t order page i) ≡ None
sound_item t order page i listed lt = no_item_row order page t i listed.formed lt

-- items that stand in pairs are even in number
pub listed_even : (t : PageType) (order : Order) (page : List ℕ) → IsListed t order page
    → is_wrong_entry_count t (entries_of order page) ≡ nat_eq (entries_of order page % 2) 1 → entries_of order page % 2 ≡ 0
listed_even t order page listed odd = grind (arith, nat_eq, listed_count, eq-eqb)

-- an item that was read is the one in the list
pub item_is : {I : Type 0} (order : Order) (page : List ℕ) (item_at : ℕ → I) (i : ℕ) (item : I) → i < length (listed order page item_at).items
    → item ≡ item_at i
    → slice_get (listed order page item_at).items i ≡ Some item
item_is order page item_at i item lt read = grind (arith, length_items, get_item)

-- a pair behind the first shares its key where both entries of the index are one
pub shared_after : (offsets : List ℕ) (i : ℕ) → 0 < i → is_shared_key offsets (2 * i) ≡ (slice_index offsets (2 * i) == slice_index offsets (2 * i - 2))
shared_after offsets i above = grind (arith, eq-eqb, le-leb)

-- Pages that are known to have no fault of form.

-- a page with a type isn't a zero page
pub zero_type : (page : List ℕ) → 26 ≤ length page → (page_type (byte_at page 25) ≡ FreePage → ⊥) → is_zero page ≡ false
zero_type page long typed =
    elim (is_zero page) as (λ b. is_zero page ≡ b → b ≡ false) [
      | true ↦ λ zeros. absurd (typed (sym (ap (λ (header : Header). page_type header.page_type) (zero_header Big page long zeros))))
      | false ↦ λ same. refl
    ] refl

-- a page that isn't a zero page has one of the types that it may have, and no row of its type
record IsTyped (page : List ℕ) (is_type : ℕ → Bool) (rest : PageType → Option ℕ) : Type 0 where
  pub typed : is_type (byte_at page 25) ≡ true
  pub body : rest (page_type (byte_at page 25)) ≡ None

typed : (order : Order) (number : ℕ) (page : List ℕ) (is_type : ℕ → Bool) (rest : PageType → Option ℕ)
    → code_of (is_zero page) order number page is_type rest ≡ None → is_zero page ≡ false → IsTyped page is_type rest
typed order number page is_type rest none other = of (is_zero page) (not (four_at order page 8 == number)) (is_type (byte_at page 25)) refl none other
  where
    of : (zeros a b : Bool) → is_type (byte_at page 25) ≡ b
        → elim zeros as (λ _. Option ℕ) [
          | true ↦ None
          | false ↦ elim (first_row {Code = ℕ} (1 :? a ∷ 2 :? not b ∷ [])) as (λ _. Option ℕ) [
            | Some code ↦ Some code
            | None ↦ rest (page_type (byte_at page 25))
          ]
        ] ≡ None → zeros ≡ false → IsTyped page is_type rest
    of true a b same none other = absurd cc
    of false true b same none other = absurd cc
    of false false false same none other = absurd cc
    of false false true same none other = record { typed = same; body = none }

-- a page that isn't a zero page tells its own number
pub numbered : (empty : Bool) (order : Order) (number : ℕ) (page : List ℕ) (is_type : ℕ → Bool) (rest : PageType → Option ℕ)
    → code_of empty order number page is_type rest ≡ None → empty ≡ false → four_at order page 8 ≡ number
numbered empty order number page is_type rest none other = grind (arith, eqb-true)

pub tree_number : (order : Order) (number : ℕ) (page : List ℕ) → page_code order number page ≡ None → is_zero page ≡ false → four_at order page 8 ≡ number
unfolding page_code
tree_number order number page none = numbered (is_zero page) order number page is_tree_type (body_code order page) none

pub queue_number : (order : Order) (number : ℕ) (page : List ℕ) → queue_code order number page ≡ None → is_zero page ≡ false → four_at order page 8 ≡ number
unfolding queue_code
queue_number order number page none = numbered (is_zero page) order number page is_queue_type (λ t. None) none

-- above page 0 a zero page is one that doesn't tell its own number
pub zero_by_number : (order : Order) (number : ℕ) (page : List ℕ) → 26 ≤ length page → (is_zero page ≡ false → four_at order page 8 ≡ number)
    → (number ≡ 0 → ⊥) → not (four_at order page 8 == number) ≡ is_zero page
zero_by_number order number page long told above = grind (arith, zero_header, ne_eqb, eq-eqb)

pub tree_type : (order : Order) (number : ℕ) (page : List ℕ) → page_code order number page ≡ None → is_zero page ≡ false
    → IsTrue (is_tree_type (byte_at page 25))
unfolding page_code
tree_type order number page none other = (typed order number page is_tree_type (body_code order page) none other).typed

pub tree_body : (order : Order) (number : ℕ) (page : List ℕ) → page_code order number page ≡ None → is_zero page ≡ false
    → body_code order page (page_type (byte_at page 25)) ≡ None
unfolding page_code
tree_body order number page none other = (typed order number page is_tree_type (body_code order page) none other).body

-- a page of a queue file that isn't a zero page has the type of its records
queue_type : (order : Order) (number : ℕ) (page : List ℕ) → queue_code order number page ≡ None → is_zero page ≡ false → byte_at page 25 ≡ 11
unfolding queue_code
queue_type order number page none other = eqb-true (byte_at page 25) 11 (typed order number page is_queue_type (λ t. None) none other).typed

-- the data of an overflow page lie on it
pub holds_data : (order : Order) (page : List ℕ) → length page ≤ 32768 → 26 ≤ length page → body_code order page (page_type (byte_at page 25)) ≡ None
    → page_type (byte_at page 25) ≡ OverflowPage → HoldsData order page
holds_data order page size header none is =
    record { size = size; header = header; room = chain_room order page (sym (ap (body_code order page) is) ∙ none) }

-- the page of records that such a page stands for
pub queue_page : (order : Order) (number : ℕ) (page : List ℕ) → queue_code order number page ≡ None → is_zero page ≡ false
    → Queue (four_at order page 8) (drop 28 page) ≡ page_as order page (page_type (byte_at page 25))
queue_page order number page none other = ap (λ b. page_as order page (page_type b)) (sym (queue_type order number page none other))

-- what the form of a page of a tree or table is
pub ruleset tree_page_form = (tree_number, tree_type, tree_body, zero_header)

-- what the form of a page of a queue is
pub ruleset queue_page_form = (queue_number, queue_page, zero_header)

-- what a view over an index needs
pub ruleset indexed_over = (header_listed, length_items, index_offset, listed_room)

-- what an item of an index needs
pub ruleset indexed_item = (listed_room, sound_item, item_is, length_items)

-- what is wrong with an item has the code of its row
pub item_coded : (fault : Option ItemFault) → option_map form_row_code (option_map item_form fault) ≡ option_map item_code fault
item_coded None = refl
item_coded (Some Offset) = refl
item_coded (Some Kind) = refl
item_coded (Some Extent) = refl
