-- The lines of `survey`: what a damaged file still has. Source: man/bdbtool.1.
use Rattle.std.specs.Prelude.{ℕ, List, [], ◌++◌, length, Option, Some, None, codes, decimal}
use Rattle.std.specs.List.{flat_map}
use Rattle.bdb_range.specs.of_format.declared.kinds.Fault.{Fault}
use Rattle.bdb_range.specs.of_format.declared.kinds.Unsupported.{Unsupported}
use Rattle.bdb_range.specs.of_format.Terms.{fault_name, unsupported_name}
use Rattle.bdb_text.specs.of_text_format.Terms.{kind_text, line}
use Rattle.bdb_tool_lines.specs.of_model.Answers.{name_text}
use Rattle.bdb_damage.specs.of_rescue.Kept.{Reading, file_in}
use Rattle.bdb_damage.specs.of_apart.Given.{FoundIn, found_in}
use Rattle.bdb_damage.specs.of_apart.Text.{settings_in}
use Rattle.bdb_damage.specs.Counts.{given_count, lost_count, rest_pairs, rest_records}
use Rattle.bdb_damage.specs.Pages.{cut_bytes, refused_pages, renumbered_pages, zero_pages}

-- Figures.

-- a number behind a space
unfoldable pub figure : ℕ → List ℕ
figure n = codes " " ++ decimal n

abbrev pub figures : ℕ → ℕ → List ℕ
figures n m = figure n ++ figure m

-- a line for each figure, with its name
unfoldable pub figure_line : List ℕ → ℕ → List ℕ
figure_line name n = name ++ line (figure n)

abbrev pub figures_line : List ℕ → ℕ → ℕ → List ℕ
figures_line name n m = name ++ line (figures n m)

-- Pages.

-- how many whole pages there are, how many bytes behind them, and how many pages above page 0 are zero
abbrev pub page_figures : Reading → List ℕ
page_figures reading =
    figure_line (codes "pages") (file_in reading).count
    ++ (figure_line (codes "cut") (cut_bytes reading) ++ figure_line (codes "zero") (length (zero_pages reading)))

-- the case that page 0 names
abbrev pub case_text : Option Unsupported → List ℕ
case_text None = []
case_text (Some name) = codes "unsupported " ++ line (unsupported_name name)

-- the code and the name of a row
abbrev pub row_text : Fault → List ℕ
row_text fault = codes " code" ++ (figure fault.code ++ (codes " " ++ line (fault_name fault.stage fault.code)))

-- a page on which a row holds
abbrev pub refused_line : Fault → List ℕ
refused_line fault = codes "refused page" ++ (figure fault.page ++ row_text fault)

-- a page with the number that it carries
abbrev pub number_line : (ℕ × ℕ) → List ℕ
number_line page = figures_line (codes "number") page.0 page.1

abbrev pub page_lines : Reading → List ℕ
page_lines reading = flat_map refused_line (refused_pages reading) ++ flat_map number_line (renumbered_pages reading)

-- Databases.

-- the name of a database, if it has one
abbrev pub named_line : FoundIn → List ℕ
named_line it = line (name_text it.db.name)

-- its kind, how much of it is given, and how much is lost
abbrev pub found_line : FoundIn → List ℕ
found_line it = codes "database " ++ (kind_text (settings_in it).kind ++ (figures (given_count it) (lost_count it) ++ named_line it))

-- each database that is found, and what belongs to none
abbrev pub found_lines : Reading → List ℕ
found_lines reading = flat_map found_line (found_in reading) ++ figures_line (codes "rest") (rest_pairs reading) (rest_records reading)

-- all lines, with the case that page 0 names
unfoldable pub survey_text : Option Unsupported → Reading → List ℕ
survey_text case reading = (page_figures reading ++ case_text case) ++ (page_lines reading ++ found_lines reading)
