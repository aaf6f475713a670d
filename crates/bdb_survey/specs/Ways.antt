-- The way down to a set's first leaf, page by page. Source: docs/FORMAT.md, "Salvage".
use Rattle.std.specs.Prelude.{ℕ, nat_lt, ◌==◌, ◌&&◌, ◌||◌, not, if◌then◌else◌, Bool, List, [], ◌∷◌, Option, Some, None}
use Rattle.bdb_law_sums.specs.of_format.Terms.{File, Meta, Page, children_in, has_type, header_in, page_at, type_in}
use Rattle.bdb_survey.specs.declared.down.Way.{Way}
use Rattle.bdb_survey.specs.declared.down.Way.TheVariants.{Ends, Child, Broken}
use Rattle.bdb_survey.specs.Salvage.{fits_below}

-- the type of a page but of metadata
abbrev pub plain_type : Page → Option ℕ
plain_type (Meta fields) = None
plain_type page = type_in page

-- where the way down goes on from a page with these children
abbrev pub way_by : (ℕ → Bool) → Option (List ℕ) → Way
way_by fits None = Ends
way_by fits (Some []) = Broken
way_by fits (Some (child ∷ others)) = if fits child then Child child else Broken

abbrev pub way_from : File → ℕ → Way
way_from file p = way_by (fits_below file p) (children_in (page_at file p))

-- the end of the way down by where it goes on
abbrev pub go_on : (ℕ → Option ℕ) → ℕ → Way → Option ℕ
go_on below p Ends = Some p
go_on below p (Child child) = below child
go_on below p Broken = None

-- a page that is there has one of these types and this level
abbrev pub fits_as : File → List ℕ → ℕ → ℕ → Bool
fits_as file types level child =
    not (child == 0 || nat_lt file.last child)
    && (has_type types (plain_type (page_at file child)) && level == (header_in (page_at file child)).level)
