-- What is left of the walks over what is given, and of what is left.
use Rattle.std.specs.Prelude.{◌≡◌, ℕ, ◌-◌, ◌<◌, ◌&&◌, not, if◌then◌else◌, Bool, false, List, [], ◌++◌, map, Option, Some, None}
use Rattle.std.specs.List.{All, filter, flat_map, range_with_len}
use Rattle.std.specs.Option.{option_map}
use Rattle.bdb_rescue.specs.of_format.Terms.{File, page_at}
use Rattle.bdb_rescue.specs.of_survey.Salvage.{stored_on}
use Rattle.bdb_rescue.specs.Kept.{Reading, file_in, numbered_at, untaken_on}
use Rattle.bdb_homes.specs.Homes.{home}
use Rattle.bdb_homes.specs.declared.home.Home.{Home}
use Rattle.bdb_apart.specs.Found.{Found, found}
use Rattle.bdb_apart.specs.Given.{db_at, is_record_page, meta_at, names_found, pairs_left_on, records_left_on}
use Rattle.bdb_apart.specs.Kept.{fits_in, holds_in, kind_in, pairs_in}
use Rattle.bdb_apart.specs.declared.holds.Holds.{Holds}

-- a page is there
abbrev pub IsThere : File → ℕ → Type 0
IsThere file p = p < file.count

-- the pairs of a page, where it holds some of a database
abbrev pub pairs_on : File → Holds → ℕ → List (List ℕ × List ℕ)
pairs_on file holds p = if pairs_in holds (kind_in (page_at file p)) then stored_on file p else []

-- the pages of a walk are there, and the homes are those of the file
pub record AreOfOne (file homes : File) (pages : List ℕ) : Type 0 where
  pub homes_are : homes ≡ file
  pub there : All (IsThere file) pages

-- Records.

abbrev pub start_of : Option Home → Option ℕ
start_of None = None
start_of (Some home) = Some home.start

-- where a leaf of records stands
abbrev pub start_on : File → ℕ → Option ℕ
start_on file p = if is_record_page (page_at file p) then start_of (home file p) else None

abbrev pub numbered_from : File → ℕ → Option ℕ → Option (List (ℕ × List ℕ))
numbered_from file p None = None
numbered_from file p (Some start) = Some (map (numbered_at file start) (untaken_on file p))

-- the records of a page, each with its number, where it's a leaf of records that has a home
abbrev pub records_at : File → ℕ → Option (List (ℕ × List ℕ))
records_at file p = numbered_from file p (start_on file p)

-- those that are left, if there are some
abbrev pub fit_left : Option (List (ℕ × List ℕ)) → List (ℕ × List ℕ)
fit_left None = []
fit_left (Some records) = records

-- those that a database takes
abbrev pub fit_on : File → Holds → ℕ → List (ℕ × List ℕ)
fit_on file holds p = filter (fits_in holds) (fit_left (records_at file p))

-- What belongs to no database.

-- the pairs of a page that are left: where it's a leaf of a master not those that name a database
abbrev pub is_other : List Found → Bool → (List ℕ × List ℕ) → Bool
is_other dbs names pair = not (names && names_found dbs pair)

abbrev pub pairs_here : Option (List (List ℕ × List ℕ)) → List (List ℕ × List ℕ)
pairs_here None = []
pairs_here (Some pairs) = pairs

-- the pages from one on
abbrev pub pages_from : File → ℕ → List ℕ
pages_from file p = range_with_len p (file.count - p)

abbrev pub pairs_from : Reading → Option (List (List ℕ × List ℕ)) → ℕ → List (List ℕ × List ℕ)
pairs_from reading here p = pairs_here here ++ flat_map (pairs_left_on (file_in reading) (found reading)) (pages_from (file_in reading) p)

-- a record fits a database, where there is one
abbrev pub is_fit : Option Holds → (ℕ × List ℕ) → Bool
is_fit None placed = false
is_fit (Some holds) placed = fits_in holds placed

-- the values of those that don't
abbrev pub loose_in : Option Holds → List (ℕ × List ℕ) → List (List ℕ)
loose_in holds records = map (λ (placed : ℕ × List ℕ). placed.1) (filter (λ placed. not (is_fit holds placed)) records)

abbrev pub records_here : Option (List (List ℕ)) → List (List ℕ)
records_here None = []
records_here (Some records) = records

abbrev pub loose_from : Reading → Option (List (List ℕ)) → ℕ → List (List ℕ)
loose_from reading here p = records_here here ++ flat_map (records_left_on (file_in reading) (found reading)) (pages_from (file_in reading) p)

-- where a leaf of records stands, and what is held of the database of its home
abbrev pub start_held : Option Holds → Option ℕ → Option (ℕ × Holds)
start_held None start = None
start_held holds None = None
start_held (Some holds) (Some start) = Some (start, holds)

abbrev pub held_at : List Found → Option ℕ → Option Holds
held_at dbs m = option_map holds_in (db_at dbs m)

abbrev pub start_by : File → List Found → ℕ → Option (ℕ × Holds)
start_by file dbs p = start_held (held_at dbs (meta_at (home file p))) (start_on file p)
