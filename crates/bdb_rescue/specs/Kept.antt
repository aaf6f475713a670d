-- What is kept of an image: the places of pairs and of values that are whole, and what stands there. Source: docs/FORMAT.md, "Salvage".
use Rattle.std.specs.Prelude.{◌≡◌, ◌<◌, ◌≤◌, ◌^◌, ◌++◌, ℕ, ◌+◌, ◌-◌, ◌*◌, ◌/◌, ◌==◌, not, if◌then◌else◌, Bool, true, false, List, [], ◌∷◌, map, length, take}
use Rattle.std.specs.Prelude.{drop, slice_index_or, Option, Some, None}
use Rattle.std.specs.List.{Contains, flat_map, list_any, range_with_len}
use Rattle.bdb_text_format.specs.of_format.Terms.{Chain, Content, File, Inline, Item, Set, Tree, Unknown, chain, entries_in, is_page_size, joined, page_at}
use Rattle.bdb_text_format.specs.of_format.Terms.{value_of}
use Rattle.bdb_survey.specs.declared.guess.Guess.{Guess}
use Rattle.bdb_rescue.specs.declared.kept.DataPlace.{DataPlace}
use Rattle.bdb_rescue.specs.declared.kept.DataPlace.TheVariants.{Here, Set as OnLeaves}
use Rattle.bdb_rescue.specs.declared.kept.KeptPair.{KeptPair}
use Rattle.bdb_rescue.specs.declared.kept.KeptValue.{KeptValue}
use Rattle.bdb_rescue.specs.Marks.{Marks}
use Rattle.bdb_survey.specs.Items.{is_valued, slot_at, slots_in}
use Rattle.bdb_survey.specs.Rows.{thin_pieces}
use Rattle.bdb_survey.specs.Salvage.{is_taken, is_whole, live_whole, paired_items, salvaged_file, set_start, set_starts}

-- An image and how it's read.
pub record Reading : Type 0 where
  pub guess : Guess
  pub image : List ℕ

-- its file
abbrev pub file_in : Reading → File
file_in reading = salvaged_file reading.guess.order reading.guess.page_size reading.image

-- Items.

-- the item at a place of a page
abbrev pub item_of : File → ℕ → ℕ → Item
item_of file p i = slot_at (slots_in (page_at file p)) i

-- where the whole data of a data item are, as a list of it alone
abbrev pub data_places : File → Content → List DataPlace
data_places file (Inline bytes) = Here ∷ []
data_places file (Set blocks) = Here ∷ []
data_places file (Chain head total) = if is_whole file head total then Here ∷ [] else []
data_places file (Tree root) = map OnLeaves (set_start file root)
data_places file Unknown = []

-- Places.

-- the place of a pair whose key and data are whole, as a list of it alone
abbrev pub kept_pair : File → ℕ → List Item → ℕ → List KeptPair
kept_pair file p items i =
    if is_valued file (slot_at items (2 * i)).content
    then map (λ place. record { page = p; index = i; live = not (slot_at items (2 * i + 1)).deleted; place = place })
    (data_places file (slot_at items (2 * i + 1)).content)
    else []

abbrev pub kept_in : File → ℕ → List Item → List KeptPair
kept_in file p items = flat_map (kept_pair file p items) (range_with_len 0 (length items / 2))

abbrev pub kept_on : File → ℕ → List KeptPair
kept_on file p = kept_in file p (paired_items (page_at file p))

-- the places of the pairs whose key and data are whole
unfoldable pub kept_pairs : File → List KeptPair
kept_pairs file = flat_map (kept_on file) (range_with_len 0 file.count)

-- the place of a live entry with a whole value
abbrev pub kept_value : File → ℕ → List Item → ℕ → List KeptValue
kept_value file p items i =
    if (slot_at items i).deleted then []
    else (if is_valued file (slot_at items i).content then record { page = p; index = i } ∷ [] else [])

abbrev pub values_in : File → ℕ → List Item → List KeptValue
values_in file p items = flat_map (kept_value file p items) (range_with_len 0 (length items))

-- the places of the live entries of a leaf with a whole value
unfoldable pub values_on : File → ℕ → List KeptValue
values_on file p = values_in file p (entries_in (page_at file p))

abbrev pub untaken_on : File → ℕ → List KeptValue
untaken_on file p = if is_taken file p then [] else values_on file p

-- those of the leaves that belong to no whole set of a pair with a whole key
unfoldable pub loose_values : File → List KeptValue
loose_values file = flat_map (untaken_on file) (range_with_len 0 file.count)

-- those of the set that begins at a page, if one does
abbrev pub set_from : File → ℕ → List KeptValue
set_from file p = if list_any (λ leaf. leaf == p) (set_starts file) then flat_map (values_on file) (chain file p) else []

-- Lists that pages have, one after another.

-- those of the pages below one
abbrev pub below : {X : Type 0} → (ℕ → List X) → ℕ → List X
below from p = flat_map from (range_with_len 0 p)

-- those of all pages, and how much of them is below each page, and below the end
pub record IsTable {X : Type 0} (from : ℕ → List X) (count : ℕ) (bounds : List ℕ) (all : List X) : Type 0 where
  pub bounds_are : bounds ≡ map (λ p. length (below from p)) (range_with_len 0 (count + 1))
  pub all_are : all ≡ below from count

-- what is of a page
abbrev pub part_of : {X : Type 0} → List ℕ → List X → ℕ → List X
part_of bounds all p = take (slice_index_or bounds (p + 1) 0 - slice_index_or bounds p 0) (drop (slice_index_or bounds p 0) all)

-- the bounds of a page are there, and between them lies a part of the list
pub record HasPart {X : Type 0} (bounds : List ℕ) (all : List X) (p : ℕ) : Type 0 where
  pub within : p + 1 < length bounds
  pub order : slice_index_or bounds p 0 ≤ slice_index_or bounds (p + 1) 0
  pub there : slice_index_or bounds (p + 1) 0 ≤ length all

-- the bytes of pieces, if there are some
abbrev pub bytes_in : Option (List (List ℕ)) → List ℕ
bytes_in None = []
bytes_in (Some pieces) = joined pieces

-- those of the whole chain that begins at a page, where they are fewer than its pages
abbrev pub thin_from : File → ℕ → List ℕ
thin_from file p = bytes_in (thin_pieces file p)

-- What stands at a place.

abbrev pub value_at : File → KeptValue → List ℕ
value_at file kept = value_of file (item_of file kept.page kept.index).content

-- the value at a place of a page, with its number where so many records come before the page
abbrev pub numbered_at : File → ℕ → KeptValue → (ℕ × List ℕ)
numbered_at file start kept = (start + kept.index + 1, value_at file kept)

-- the data in a data item
abbrev pub data_here : File → Content → List (List ℕ)
data_here file (Inline bytes) = bytes ∷ []
data_here file (Set blocks) = blocks
data_here file (Chain head total) = value_of file (Chain head total) ∷ []
data_here file (Tree root) = []
data_here file Unknown = []

abbrev pub data_at : File → Content → DataPlace → List (List ℕ)
data_at file content Here = data_here file content
data_at file content (OnLeaves leaf) = flat_map (live_whole file) (chain file leaf)

-- a key with each of some data
abbrev pub under : List ℕ → List (List ℕ) → List (List ℕ × List ℕ)
under key values = map (λ value. (key, value)) values

-- the key of a kept pair with each of its data
unfoldable pub given : File → KeptPair → List (List ℕ × List ℕ)
given file kept =
    under (value_of file (item_of file kept.page (2 * kept.index)).content)
    (data_at file (item_of file kept.page (2 * kept.index + 1)).content kept.place)

-- the same as the key and the data; where it's deleted there are none
abbrev pub keyed : File → KeptPair → (List ℕ × List (List ℕ))
keyed file kept = (
  value_of file (item_of file kept.page (2 * kept.index)).content,
  if kept.live then data_at file (item_of file kept.page (2 * kept.index + 1)).content kept.place else [],
)

abbrev pub pairs_under : (List ℕ × List (List ℕ)) → List (List ℕ × List ℕ)
pairs_under entry = under entry.0 entry.1

-- what a kept pair gives: nothing where it's deleted
abbrev pub given_live : File → KeptPair → List (List ℕ × List ℕ)
given_live file kept = if kept.live then given file kept else []

-- What is left of a walk.

-- the pairs that are left of an entry, if there is one
abbrev pub left_of : Option (List (List ℕ × List ℕ)) → List (List ℕ × List ℕ)
left_of None = []
left_of (Some pairs) = pairs

-- the pairs of an entry, and then those of kept places
abbrev pub pairs_left : File → Option (List (List ℕ × List ℕ)) → List KeptPair → List (List ℕ × List ℕ)
pairs_left file here pairs = left_of here ++ flat_map (given_live file) pairs

-- What is known of a kept place.

-- there's an item at the place, with a whole value
pub record IsKeptValue (file : File) (kept : KeptValue) : Type 0 where
  pub there : kept.index < length (slots_in (page_at file kept.page))
  pub valued : is_valued file (item_of file kept.page kept.index).content ≡ true

-- the data in a data item are whole
abbrev pub is_held : File → Content → Bool
is_held file (Inline bytes) = true
is_held file (Set blocks) = true
is_held file (Chain head total) = is_whole file head total
is_held file (Tree root) = true
is_held file Unknown = false

-- there's a pair at the place, whose key is whole, and whose data are where they're said to be
pub record IsKeptPair (file : File) (kept : KeptPair) : Type 0 where
  pub there : 2 * kept.index + 1 < length (slots_in (page_at file kept.page))
  pub valued : is_valued file (item_of file kept.page (2 * kept.index)).content ≡ true
  pub held : kept.place ≡ Here → is_held file (item_of file kept.page (2 * kept.index + 1)).content ≡ true
  pub starts : (leaf : ℕ) → kept.place ≡ OnLeaves leaf → Contains (set_starts file) leaf

-- the leaves of whole sets of pairs with a whole key are marked
abbrev pub AreTaken : File → List Bool → Type 0
AreTaken file taken = Marks file.count taken (flat_map (chain file) (set_starts file))

-- what is kept of an image
pub record IsSalvaged (guess : Guess) (image : List ℕ) (pair_bounds : List ℕ) (pairs : List KeptPair) (value_bounds : List ℕ)
    (values : List KeptValue) (taken : List Bool) (bounds : List ℕ) (sets : List KeptValue) (thin_bounds thin : List ℕ) : Type 0 where
  pub legal : is_page_size guess.page_size ≡ true
  pub small : length image ≤ 2 ^ 30
  pub pairs_are : IsTable (kept_on (salvaged_file guess.order guess.page_size image)) (salvaged_file guess.order guess.page_size image).count pair_bounds pairs
  pub values_are : IsTable (untaken_on (salvaged_file guess.order guess.page_size image)) (salvaged_file guess.order guess.page_size image).count value_bounds values
  pub taken_are : AreTaken (salvaged_file guess.order guess.page_size image) taken
  pub sets_are : IsTable (set_from (salvaged_file guess.order guess.page_size image)) (salvaged_file guess.order guess.page_size image).count bounds sets
  pub thin_are : IsTable (thin_from (salvaged_file guess.order guess.page_size image)) (salvaged_file guess.order guess.page_size image).count thin_bounds thin
