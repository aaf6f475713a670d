-- Whether a page has what a reference asks, as its face tells.
use Rattle.std.specs.Prelude.{ℕ, nat_lt, ◌==◌, ◌&&◌, ◌||◌, not, Bool, true, List, [], ◌∷◌, length, get_or, Some, None, is_none}
use Rattle.bdb_survey.specs.of_format.Terms.{Asked, File, first_row, fit_rows, has_type, is_asked}
use Rattle.bdb_homes.specs.Faces.{no_face}
use Rattle.bdb_homes.specs.declared.face.Face.{Face}

-- a page of a file has what is asked
abbrev pub fits_as : File → Asked → ℕ → Bool
fits_as file asked page = is_none (first_row (fit_rows file asked page))

-- a face has it
abbrev pub meets : Asked → Face → Bool
meets asked face =
    (has_type asked.types face.page_type || (asked.or_zero && face.is_zero)) && is_asked asked.level face.level && is_asked asked.previous face.previous

-- a page that is there and isn't page 0 has it
abbrev pub fits_by : List Face → Asked → ℕ → Bool
fits_by faces asked page = not (page == 0) && nat_lt page (length faces) && meets asked (get_or faces page no_face)

-- what a table asks of the first page of a bucket
abbrev pub bucket_asked : Asked
bucket_asked = record { types = 2 ∷ 13 ∷ []; or_zero = true; level = None; previous = Some 0 }
