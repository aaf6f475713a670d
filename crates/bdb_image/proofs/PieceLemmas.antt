-- How long the piece is that a page has of a value.
use Rattle.std.proofs.Common.{◌≡◌, ℕ, ◌-◌, ◌≤◌, ◌⊎◌, List, [], length, drop, arith, refl, sym, ◌∙◌, ap, inl, inr, length-drop, length-take}
use Rattle.std.specs.Prelude.{min, Option, Some, None}
use Rattle.bdb_faults.specs.of_format.declared.kinds.Order.{Order}
use Rattle.bdb_faults.specs.of_format.declared.pages.PageType.{PageType}
use Rattle.bdb_faults.specs.of_format.declared.pages.PageType.TheVariants.{Overflow as OverflowPage}
use Rattle.bdb_faults.specs.of_format.Terms.{Page, abstract_page, piece_in, two_at}
use Rattle.bdb_image.specs.Told.{page_told, told_type}
use Rattle.bdb_image.proofs.FitLemmas.{as_told}

abbrev piece_length : Page → ℕ
piece_length page = length (piece_in page)

-- only a page of a chain has a piece
other_piece : (order : Order) (page : List ℕ) (type : Option PageType) → (type ≡ Some OverflowPage) ⊎ (0 ≡ piece_length (page_told order page type))
other_piece order page None = inr refl
other_piece order page (Some OverflowPage) = inl refl
other_piece order page (Some t) = inr refl

pub no_piece : (order : Order) (page : List ℕ) → (told_type page ≡ Some OverflowPage → ⊥) → 0 ≡ length (piece_in (abstract_page order page))
no_piece order page other =
    elim (other_piece order page (told_type page)) [
      | inl chain ↦ absurd (other chain)
      | inr none ↦ as_told piece_length order page (told_type page) 0 refl none
    ]

-- the piece of a page of a chain is as long as it tells, but no longer than the page has room
pub piece_there : (order : Order) (page : List ℕ) → told_type page ≡ Some OverflowPage
    → min (two_at order page 22) (length page - 26) ≡ length (piece_in (abstract_page order page))
piece_there order page is =
    as_told piece_length order page (Some OverflowPage) _ is
    (sym (length-take (two_at order page 22) (drop 26 page) ∙ ap (min (two_at order page 22)) (length-drop 26 page)))

pub piece_fits : (order : Order) (page : List ℕ) → length (piece_in (abstract_page order page)) ≤ length page
piece_fits order page =
    elim (other_piece order page (told_type page)) [
      | inl chain ↦ omega (arith, piece_there order page chain)
      | inr none ↦ omega (arith, as_told piece_length order page (told_type page) 0 refl none)
    ]

-- how long the piece of a page is
pub ruleset piece_lengths = (no_piece, piece_there)
