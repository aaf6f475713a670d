-- What other pages ask of a page.
use Rattle.std.specs.Prelude.{◌≡◌, ℕ, ◌-◌, ◌<◌, ◌≤◌, List, length, get_or}
use Rattle.bdb_survey.specs.of_format.Terms.{File, NoType, Page, header_in, is_meta, is_zero_page, page_at, type_in}
use Rattle.bdb_homes.specs.Homes.{records_on, row_of}
use Rattle.bdb_homes.specs.declared.face.Face.{Face}

abbrev pub face_of : Page → Face
face_of page = record {
  page_type = type_in page;
  is_zero = is_zero_page page;
  is_meta = is_meta page;
  row = row_of page;
  level = (header_in page).level;
  records = records_on page;
  previous = (header_in page).previous;
  next = (header_in page).next;
}

abbrev pub no_face : Face
no_face = face_of NoType

-- the faces of all pages of a file
pub record AreFaces (file : File) (faces : List Face) : Type 0 where
  pub len : length faces ≡ file.count
  pub last : file.last ≡ file.count - 1
  pub each : (p : ℕ) → p < length faces → get_or faces p no_face ≡ face_of (page_at file p)
  pub past : (p : ℕ) → file.count ≤ p → page_at file p ≡ NoType
