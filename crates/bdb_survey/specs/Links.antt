-- One page of a row, as a walk looks at it, and what is left of a row. Source: docs/FORMAT.md, "Salvage".
use Rattle.std.specs.Prelude.{ℕ, ◌+◌, ◌==◌, ◌&&◌, if◌then◌else◌, Bool, length, map, Option, Some, None}
use Rattle.bdb_law_sums.specs.of_form.declared.view.PageView.{PageView}
use Rattle.bdb_law_sums.specs.of_form.Seen.{page_seen}
use Rattle.bdb_law_sums.specs.of_format.Terms.{File, NoType, Page, chain, chain_in, header_in, joined, page_at, piece_in, pieces_of}
use Rattle.bdb_survey.specs.declared.links.Extent.{Extent}
use Rattle.bdb_survey.specs.declared.links.Link.{Link}
use Rattle.bdb_survey.specs.declared.links.RowKind.{RowKind}
use Rattle.bdb_survey.specs.declared.links.RowKind.TheVariants.{Overflow, Records, SortedData}
use Rattle.bdb_survey.specs.Salvage.{follows, is_overflow, is_record_leaf, is_row, is_sorted_leaf}

-- the page of a view; one without a type where there's none
abbrev pub view_page : Option PageView → Page
view_page None = NoType
view_page (Some view) = page_seen view

-- the pages that a row is made of
abbrev pub is_of_kind : RowKind → Page → Bool
is_of_kind Overflow = is_overflow
is_of_kind Records = is_record_leaf
is_of_kind SortedData = is_sorted_leaf

-- the length of the data of a page that comes after another one, and its next page; none where it's no such page
abbrev pub link_of : (Page → Bool) → ℕ → Page → Option Link
link_of test before page =
    if test page && (header_in page).previous == before then Some (record { length = length (piece_in page); next = (header_in page).next }) else None

-- the same by its number
abbrev pub link_in : File → (Page → Bool) → ℕ → ℕ → Option Link
link_in file test before p = if p == 0 then None else link_of test before (page_at file p)

-- how much a whole row has that begins here
unfoldable pub extent_of : File → (Page → Bool) → ℕ → Option Extent
extent_of file test head = if is_row file test head then Some (record { length = length (joined (pieces_of file head)); pages = length (chain file head) }) else
    None

-- the same of what is left of a row, in so many turns, with the bytes and the pages before
abbrev pub rest_extent : File → (Page → Bool) → ℕ → ℕ → ℕ → ℕ → ℕ → Option Extent
rest_extent file test turns before p bytes_before pages_before =
    if follows file test before (chain_in turns file p)
    then Some (record {
      length = bytes_before + length (joined (map (λ q. piece_in (page_at file q)) (chain_in turns file p)));
      pages = pages_before + length (chain_in turns file p);
    })
    else None
