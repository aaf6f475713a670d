-- With which code a reference fails, as the code asks for it. Source: docs/FORMAT.md, "Stage 3, references".
use Rattle.std.specs.Prelude.{ℕ, ◌&&◌, ◌||◌, not, Bool, false, List, [], ◌∷◌, Some, None}
use Rattle.bdb_faults.specs.of_format.Terms.{Asked, Page, Row, has_type, header_in, is_asked, is_zero_page, type_in, ◌:?◌}

-- one of these types, with this previous page
abbrev pub asks_previous : List ℕ → ℕ → Asked
asks_previous types previous = record { types = types; or_zero = false; level = None; previous = Some previous }

-- a page has a type that is asked, or is a zero page where one will do
abbrev pub is_of_type : Asked → Page → Bool
is_of_type asked page = has_type asked.types (type_in page) || (asked.or_zero && is_zero_page page)

-- what a page that is there lacks of what is asked: the type, the level, the previous page
abbrev pub page_rows : Asked → Page → List (Row ℕ)
page_rows asked page =
    2 :? not (is_of_type asked page)
    ∷ 3 :? not (is_asked asked.level (header_in page).level)
    ∷ 4 :? not (is_asked asked.previous (header_in page).previous)
    ∷ []
