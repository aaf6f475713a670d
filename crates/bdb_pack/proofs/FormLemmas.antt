-- A page that takes items has no row of form.
use Rattle.std.proofs.Common.{◌≡◌, ℕ, zero, suc, ◌<◌, ◌≤◌, false, not, List, length, Option, Some, None, arith, refl, sym, ◌∙◌, ap, ◌==◌}
use Rattle.bdb_pack.proofs.Common.{eq-eqb, Order, body_code, byte_at, entries_of, first_row, four_at, identity_rows, index_end, index_rows, is_tree_type, is_wrong_entry_count, is_wrong_level, is_zero}
use Rattle.bdb_pack.proofs.Common.{item_row, lesser, page_code, page_type, PageType, above, BegunIsFormed}
use Rattle.bdb_layout.proofs.of_format.ItemLemmas.{items_next, least_below, least_items}
use Rattle.bdb_pack.proofs.OpenLemmas.{open_is}
use Rattle.bdb_pack.proofs.StandingLemmas.{not_zero}
use Rattle.bdb_pack.proofs.TypeLemmas.{Takes, takes}

least_none : (f : ℕ → Option ℕ) (n : ℕ) → ((i : ℕ) → i < n → f i ≡ None) → least_below f n ≡ None
least_none f zero none = refl
least_none f (suc n) none = ap (λ a. lesser a (f n)) (least_none f n (λ i low. none i (omega arith))) ∙ none n (omega arith)

index_none : (order : Order) (page : List ℕ) (t : PageType) → index_end order page ≤ length page → is_wrong_level t (byte_at page 24) ≡ false
    → is_wrong_entry_count t (entries_of order page) ≡ false
    → first_row (index_rows order page t) ≡ None
unfolding index_rows
index_none order page t room level entries = rw (above (length page) (index_end order page) room, level, entries) refl

pub code_none : (order : Order) (number : ℕ) (page : List ℕ) → is_zero page ≡ false → first_row (identity_rows order page number is_tree_type) ≡ None
    → body_code order page (page_type (byte_at page 25)) ≡ None
    → page_code order number page ≡ None
unfolding page_code
code_none order number page some identity body = grind (arith, Option, Some, None)

pub begun_is_formed : BegunIsFormed
begun_is_formed order number page begun is_number level entries =
    let t : PageType = page_type (byte_at page 25) in
    let is : Takes (byte_at page 25) = takes (byte_at page 25) begun.type in
    let least = (open_is order page begun).least in
    let high = begun.high in
    let room = begun.room in
    let numbered : not (four_at order page 8 == number) ≡ false = ap not (eq-eqb (four_at order page 8) number is_number) in
    let first : first_row (index_rows order page t) ≡ None = index_none order page t (omega (arith, room, high)) level entries in
    let items : least_below (item_row t order page) (entries_of order page) ≡ None = least_none (item_row t order page) (entries_of order page) begun.items in
    code_none order number page (not_zero page (omega (arith, least)) is.some) (rw (numbered, is.tree) refl)
    (is.listed order page ∙ (items_next t order page first ∙ (sym (least_items t order page) ∙ items)))
