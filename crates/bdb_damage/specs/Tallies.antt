-- What is counted page by page.
use Rattle.std.specs.Prelude.{◌≡◌, ◌≤◌, ◌^◌, ℕ, ◌+◌, ◌*◌, ◌/◌, nat_lt, ◌==◌, ◌&&◌, ◌||◌, not, if◌then◌else◌, Bool, true, List, length, Option, Some, None}
use Rattle.std.specs.List.{count_by, enumerate_from, filter, range_with_len}
use Rattle.bdb_apart.specs.of_format.Terms.{Chain, Content, File, Inline, Item, Set, Tree, Unknown, entries_in, is_page_size, page_at}
use Rattle.bdb_apart.specs.of_rescue.Kept.{Reading, file_in, numbered_at, value_at}
use Rattle.bdb_apart.specs.of_rescue.declared.kept.KeptPair.{KeptPair}
use Rattle.bdb_apart.specs.of_rescue.declared.kept.KeptValue.{KeptValue}
use Rattle.bdb_apart.specs.of_survey.Items.{slot_at}
use Rattle.bdb_apart.specs.of_survey.Salvage.{is_taken}
use Rattle.bdb_apart.specs.Given.{numbered_entry}
use Rattle.bdb_apart.specs.Kept.{fits_in, kind_in, pairs_in}
use Rattle.bdb_apart.specs.Left.{fit_on, pairs_on, start_on}
use Rattle.bdb_apart.specs.declared.holds.Holds.{Holds}
use Rattle.bdb_damage.specs.declared.counts.Tally.{Tally}
use Rattle.bdb_damage.specs.declared.counts.Tally.TheVariants.{PairsGiven, RecordsGiven, PairsLost, RecordsLost}
use Rattle.bdb_damage.specs.Counts.{lost_pairs_on}
use Rattle.bdb_damage.specs.Pages.{is_zero_at}

-- how many data a data item has as a set on its page
abbrev pub set_size : Content → ℕ
set_size (Inline bytes) = 0
set_size (Set blocks) = length blocks
set_size (Chain head total) = 0
set_size (Tree root) = 0
set_size Unknown = 0

-- a pair among items is live: its data item is
abbrev pub is_live_pair : List Item → ℕ → Bool
is_live_pair items i = not (slot_at items (2 * i + 1)).deleted

abbrev pub live_pairs_in : List Item → ℕ
live_pairs_in items = count_by (is_live_pair items) (range_with_len 0 (length items / 2))

-- the places of live pairs
abbrev pub is_kept_live : KeptPair → Bool
is_kept_live kept = kept.live

-- an entry is live
abbrev pub is_live_slot : List Item → ℕ → Bool
is_live_slot items i = not (slot_at items i).deleted

abbrev pub live_slots_in : List Item → ℕ
live_slots_in items = count_by (is_live_slot items) (range_with_len 0 (length items))

-- the records at some places that fit a database
abbrev pub is_fit_at : File → Holds → ℕ → KeptValue → Bool
is_fit_at file holds start place = fits_in holds (numbered_at file start place)

-- a live entry that isn't given
abbrev pub is_lost_by : File → Holds → (ℕ × Item) → Bool
is_lost_by file holds entry = not entry.1.deleted && length (filter (fits_in holds) (numbered_entry file entry)) == 0

abbrev pub lost_from : File → Holds → ℕ → Option ℕ → ℕ
lost_from file holds p None = 0
lost_from file holds p (Some start) = count_by (is_lost_by file holds) (enumerate_from (start + 1) (entries_in (page_at file p)))

-- the live entries that aren't given of a page in the row of a database
abbrev pub lost_at : File → Holds → ℕ → ℕ
lost_at file holds p = if is_taken file p then 0 else lost_from file holds p (start_on file p)

-- the lost pairs of a page in the row of a database
abbrev pub lost_in_row : File → Holds → ℕ → ℕ
lost_in_row file holds p = if pairs_in holds (kind_in (page_at file p)) then lost_pairs_on file p else 0

-- what is counted of a page in the row of a database: the pairs or records that are given, or those that are lost
abbrev pub tally_on : Tally → File → Holds → ℕ → ℕ
tally_on PairsGiven file holds p = length (pairs_on file holds p)
tally_on RecordsGiven file holds p = length (fit_on file holds p)
tally_on PairsLost file holds p = lost_in_row file holds p
tally_on RecordsLost file holds p = lost_at file holds p

-- the value at a place has a length that is fixed, where that isn't 0
abbrev pub has_len : File → ℕ → KeptValue → Bool
has_len file len place = len == 0 || length (value_at file place) == len

-- a page above page 0 is zero
abbrev pub is_zero_above : Reading → ℕ → Bool
is_zero_above reading p = nat_lt 0 p && is_zero_at reading p

-- what bounds how much an image gives: its page size, its length, and how many pages it has
pub record IsBounded (reading : Reading) : Type 0 where
  pub legal : is_page_size reading.guess.page_size ≡ true
  pub small : length reading.image ≤ 2 ^ 30
  pub few : (file_in reading).count ≤ 2 ^ 21
