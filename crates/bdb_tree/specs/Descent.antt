-- The way from the root of a tree down to a leaf, by the keys of internal pages. Source: docs/FORMAT.md, "Internal items (type 3)".
use Rattle.std.specs.Prelude.{◌≡◌, ◌≤◌, ◌<◌, ℕ, zero, suc, Bool, true, false, not, List, [], ◌∷◌, length, get_or, Option, Some, None}
use Rattle.std.specs.List.{Contains, filter, last_or}
use Rattle.std.specs.Option.{unwrap_or}
use Rattle.bdb_overflow.specs.of_format.Terms.{File, Internal, InternalItem, Listed, Page, inner_pages, page_at}
use Rattle.bdb_overflow.specs.of_slots.Slots.{no_internal_item}

-- the items for which the test is false, the first item always counting so
abbrev pub candidates : (InternalItem → Bool) → List InternalItem → List InternalItem
candidates test [] = []
candidates test (first ∷ items) = first ∷ filter (λ item. not (test item)) items

-- the child of the last of them
abbrev pub chosen : (InternalItem → Bool) → List InternalItem → ℕ
chosen test items = (unwrap_or (last_or None (candidates test items)) no_internal_item).child

-- the page that a descent goes on to from an internal page with keys; it ends at another page
abbrev pub next_below : (InternalItem → Bool) → Page → Option ℕ
next_below test (Internal page) = Some (chosen test page.items)
next_below test page = None

-- a descent looks into internal pages with keys, one step each
abbrev pub steps_at : Page → ℕ
steps_at (Internal page) = 1
steps_at page = 0

-- a descent that goes on, or ends at a page
abbrev pub go_on : (ℕ → ℕ) → ℕ → Option ℕ → ℕ
go_on below p None = p
go_on below p (Some child) = below child

-- where a descent from a page ends, in so many levels
unfoldable pub descent : ℕ → File → (InternalItem → Bool) → ℕ → ℕ
descent zero file test p = p
descent (suc levels) file test p = go_on (descent levels file test) p (next_below test (page_at file p))

-- each item above index 0 can be read; the test isn't asked of the first
abbrev pub AreReadable : (InternalItem → Type 0) → List InternalItem → Type 0
AreReadable reads items = (i : ℕ) → 1 ≤ i → i < length items → reads (get_or items i no_internal_item)

-- so it is on each internal page of a tree
abbrev pub AllReadable : File → (InternalItem → Type 0) → ℕ → Type 0
AllReadable file reads root =
    (p : ℕ) (page : Listed InternalItem) → Contains (inner_pages file root) p → page_at file p ≡ Internal page → AreReadable reads page.items

-- once the test is true for an item above index 0, it's true for the later ones
abbrev pub IsMonotone : (InternalItem → Bool) → List InternalItem → Type 0
IsMonotone test items =
    (i j : ℕ) → 1 ≤ i → i ≤ j → j < length items → test (get_or items i no_internal_item) ≡ true → test (get_or items j no_internal_item) ≡ true

-- it does so on each internal page of a tree
abbrev pub AllMonotone : File → (InternalItem → Bool) → ℕ → Type 0
AllMonotone file test root =
    (p : ℕ) (page : Listed InternalItem) → Contains (inner_pages file root) p → page_at file p ≡ Internal page → IsMonotone test page.items

-- the last item for which the test is false, the first item always counting so
pub record IsLastFalse (test : InternalItem → Bool) (items : List InternalItem) (i : ℕ) : Type 0 where
  pub inside : i < length items
  pub is_false : 1 ≤ i → test (get_or items i no_internal_item) ≡ false
  pub later : (j : ℕ) → i < j → j < length items → test (get_or items j no_internal_item) ≡ true
