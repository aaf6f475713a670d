-- A page by its type.
use Rattle.std.proofs.Common.{◌≡◌, ◌∙◌, ℕ, List, length, refl, sym, None, false, true, []}
use Rattle.bdb_io.specs.of_format.declared.kinds.Order.{Order}
use Rattle.bdb_io.specs.of_format.declared.metadata.Head.{Head}
use Rattle.bdb_io.specs.of_format.declared.pages.PageType.{PageType}
use Rattle.bdb_io.specs.of_format.declared.pages.PageType.TheVariants.{Internal as InternalPage, RecnoInternal as RecnoInternalPage}
use Rattle.bdb_io.specs.of_format.declared.pages.PageType.TheVariants.{Leaf as LeafPage, RecnoLeaf as RecnoLeafPage, DupLeaf as DupLeafPage}
use Rattle.bdb_io.specs.of_format.Terms.{abstract_page, byte_at, form_code, is_page_size, is_zero, page_as, page_type}
use Rattle.bdb_law_turned.specs.Fields.{fields_of}
use Rattle.bdb_law_turned.specs.Overlaps.{overlaps}
use Rattle.bdb_law_turned.specs.Turning.{turned_page}
use Rattle.bdb_law_turned.proofs.PageLemmas.{AreNumbersOf, no_fields_turn, numbers_by_type}
use Rattle.bdb_swap.specs.Turns.{Turns}

-- no two items share a byte on pages of other types
pub none_overlap : (page : List ℕ) (order : Order) (t : PageType) → (t ≡ InternalPage → ⊥) → (t ≡ RecnoInternalPage → ⊥) → (t ≡ LeafPage → ⊥)
    → (t ≡ RecnoLeafPage → ⊥) → (t ≡ DupLeafPage → ⊥) → false ≡ overlaps (page_as order page t)
unfolding overlaps
none_overlap page order InternalPage internal recno leaf records sorted = absurd (internal refl)
none_overlap page order RecnoInternalPage internal recno leaf records sorted = absurd (recno refl)
none_overlap page order LeafPage internal recno leaf records sorted = absurd (leaf refl)
none_overlap page order RecnoLeafPage internal recno leaf records sorted = absurd (records refl)
none_overlap page order DupLeafPage internal recno leaf records sorted = absurd (sorted refl)
none_overlap page order t internal recno leaf records sorted = refl

-- What turns the numbers of a page round by its type turns the page round.
pub page_turns : (head : Head) (p : ℕ) (page new : List ℕ) → is_page_size (length page) ≡ true → form_code head p page ≡ None
    → overlaps (abstract_page head.order page) ≡ false → is_zero page ≡ false
    → Turns page (fields_of (page_as head.order page (page_type (byte_at page 25)))) page new → new ≡ turned_page head.order page
page_turns head p page new size none apart some turns =
    let numbers : AreNumbersOf head.order page (fields_of (page_as head.order page (page_type (byte_at page 25)))) =
    numbers_by_type head p page size none apart some in
    turns.turned [] numbers.apart numbers.within (sym (no_fields_turn page)) ∙ sym numbers.turned
