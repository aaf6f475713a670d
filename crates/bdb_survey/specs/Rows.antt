-- What begins at a page, and the pages of a row that are left. Source: docs/FORMAT.md, "Salvage".
use Rattle.std.specs.Prelude.{ℕ, nat_lt, ◌==◌, if◌then◌else◌, Bool, true, false, List, [], Option, Some, None}
use Rattle.bdb_law_sums.specs.of_format.Terms.{DupLeaf, File, Internal, Overflow, Page, RecnoInternal, RecnoLeaf, chain_in, page_at, pieces_of}
use Rattle.bdb_survey.specs.declared.down.Way.{Way}
use Rattle.bdb_survey.specs.declared.down.Way.TheVariants.{Ends, Child, Broken}
use Rattle.bdb_survey.specs.declared.links.Extent.{Extent}
use Rattle.bdb_survey.specs.declared.survey.Row.{Row}
use Rattle.bdb_survey.specs.declared.survey.Row.TheVariants.{Nothing, Chain as ChainRow, Leaves, Way as WayRow}
use Rattle.bdb_survey.specs.Links.{extent_of}
use Rattle.bdb_survey.specs.Ways.{way_from}
use Rattle.bdb_survey.specs.Salvage.{is_overflow, is_record_leaf, is_sorted_leaf}

abbrev pub chain_row : Option Extent → Row
chain_row None = Nothing
chain_row (Some extent) = ChainRow extent.length extent.pages

abbrev pub leaf_row : Option Extent → Row
leaf_row None = Nothing
leaf_row (Some extent) = Leaves

abbrev pub way_row : Way → Row
way_row Ends = Nothing
way_row (Child child) = WayRow child
way_row Broken = Nothing

abbrev pub row_by : File → ℕ → Page → Row
row_by file p (Internal page) = way_row (way_from file p)
row_by file p (RecnoInternal page) = way_row (way_from file p)
row_by file p (Overflow header piece) = chain_row (extent_of file is_overflow p)
row_by file p (RecnoLeaf page) = leaf_row (extent_of file is_record_leaf p)
row_by file p (DupLeaf page) = leaf_row (extent_of file is_sorted_leaf p)
row_by file p page = Nothing

-- the whole row that begins at a page, if one does, or the way down that goes on from there
abbrev pub row_at : File → ℕ → Row
row_at file p = row_by file p (page_at file p)

abbrev pub is_chain_of : Row → ℕ → Bool
is_chain_of Nothing total = false
is_chain_of (ChainRow length pages) total = length == total
is_chain_of Leaves total = false
is_chain_of (WayRow child) total = false

abbrev pub is_leaf_row : Row → Bool
is_leaf_row Nothing = false
is_leaf_row (ChainRow length pages) = false
is_leaf_row Leaves = true
is_leaf_row (WayRow child) = false

-- a whole chain that has fewer bytes than pages
abbrev pub is_thin_row : Row → Bool
is_thin_row Nothing = false
is_thin_row (ChainRow length pages) = nat_lt length pages
is_thin_row Leaves = false
is_thin_row (WayRow child) = false

-- the pieces of the whole chain that begins at a page, where it has fewer bytes than pages
abbrev pub thin_pieces : File → ℕ → Option (List (List ℕ))
thin_pieces file p = if is_thin_row (row_at file p) then Some (pieces_of file p) else None

-- the pages of a row from one on, if there's one, in so many turns
abbrev pub leaves_from : ℕ → File → Option ℕ → List ℕ
leaves_from turns file None = []
leaves_from turns file (Some p) = chain_in turns file p

-- a page's number, unless it's 0
abbrev pub unless_zero : ℕ → Option ℕ
unless_zero p = if p == 0 then None else Some p
