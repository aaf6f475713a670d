-- Where the pairs of a table stand, and the order into which they are put there. Source: docs/FORMAT.md, "Order of keys".
use Rattle.std.specs.Prelude.{◌≡◌, ◌≤◌, ℕ, ◌+◌, ◌*◌, nat_lt, if◌then◌else◌, Bool, true, false, List, [], ◌∷◌, ◌++◌, length, Option, Some, None}
use Rattle.std.specs.Cmp.Lexicographic.{slice_cmp}
use Rattle.std.specs.List.{AllByRecursion, Contains}
use Rattle.std.specs.Ordering.{is_lt, nat_cmp, ordering_then}
use Rattle.std.specs.declared.cmp.Ordering.{Ordering}
use Rattle.bdb_tree.specs.of_form.Pairs.{PairOf}
use Rattle.bdb_tree.specs.of_overflow.Datum.{FitsContent}
use Rattle.bdb_tree.specs.of_overflow.Prefix.{AreBytes, prefix_of}
use Rattle.bdb_buckets.specs.declared.place.PairPlace.{PairPlace}
use Rattle.bdb_buckets.specs.Told.{Told, told, told_pair}
use Rattle.bdb_buckets.specs.Views.{IsPair, IsTable}
use Rattle.bdb_tree.specs.of_format.Terms.{Content, File, Hash, Item, Page, StoredPair, Unknown, file_of, item_at, page_at, pair_at, value_of}

-- the pair with this index is on the page
abbrev pub has_pair : Page → ℕ → Bool
has_pair (Hash page) i = nat_lt (2 * i + 1) (length page.items)
has_pair page i = false

-- the pair with an index of a page; none is on pages that aren't hash pages
abbrev pub pair_on : File → ℕ → Page → ℕ → StoredPair
pair_on file p (Hash page) i = pair_at file p page (λ n. false) i
pair_on file p page i = record { page = p; key = []; data_item = Unknown; live = true; shares = false }

-- what the key of the pair with this index of a page is stored as; other pages have none
abbrev pub key_content : Page → ℕ → Content
key_content (Hash page) i = (item_at page (2 * i)).content
key_content page i = Unknown

abbrev pub told_on : List ℕ → ℕ → ℕ → Told
told_on image p i = told image (pair_on (file_of image) p (page_at (file_of image) p) i)

-- this pair stands on this page with this index
pub record StandsOn (p i : ℕ) (t : Told) : Type 0 where
  pub inside : p ≤ (file_of t.image).last
  pub there : has_pair (page_at (file_of t.image) p) i ≡ true
  pub is : t ≡ told_on t.image p i

-- what the code knows of a pair that it has read
pub record IsRead (p i : ℕ) (t : Told) : Type 0 where
  pub pair : IsPair t.image t.pair.data_item
  pub stands : StandsOn p i t

-- what is known of a pair that the view of its page gives
pub record IsGiven (image : List ℕ) (p : ℕ) (pair : PairOf Item) : Type 0 where
  pub key : FitsContent (file_of image) pair.key.content
  pub stored : pair.key.content ≡ key_content (page_at (file_of image) p) pair.index
  pub read : IsRead p pair.index (told_pair image p pair)

abbrev pub AreGiven : List ℕ → ℕ → Option (List (PairOf Item)) → Type 0
AreGiven image p None = Unit {0}
AreGiven image p (Some pairs) = AllByRecursion (IsGiven image p) pairs

-- the pair at a place
abbrev pub told_at : List ℕ → PairPlace → Told
told_at image place = told_on image place.page place.index

-- a place is that of a pair, with the first bytes of its key
pub record IsAt (place : PairPlace) (t : Told) : Type 0 where
  pub stands : StandsOn place.page place.index t
  pub first : place.first ≡ prefix_of 8 t.pair.key
  pub bytes : AreBytes 8 t.pair.key

-- places are those of these pairs, one for each
abbrev pub AreAt : List PairPlace → List Told → Type 0
AreAt [] [] = Unit {0}
AreAt [] (t ∷ ts) = ⊥
AreAt (place ∷ places) [] = ⊥
AreAt (place ∷ places) (t ∷ ts) = IsAt place t × AreAt places ts

-- the places of these pairs were added
pub record Adds (old new : List PairPlace) (pairs : List Told) : Type 0 where
  pub after : (before : List Told) → AreAt old before → AreAt new (before ++ pairs)

-- the places of all pairs but of those that are left were added
pub record IsCollected (old new : List PairPlace) (all left : List Told) : Type 0 where
  pub done : List Told
  pub whole : all ≡ done ++ left
  pub adds : Adds old new done

-- places of pairs of one file
pub record ArePlaces (image : List ℕ) (places : List PairPlace) : Type 0 where
  pub table : IsTable image
  pub each : (place : PairPlace) → Contains places place → IsAt place (told_at image place)

-- the key at any place, empty where no pair is
abbrev pub key_in : File → Page → ℕ → List ℕ
key_in file (Hash page) i = if nat_lt (2 * i + 1) (length page.items) then value_of file (item_at page (2 * i)).content else []
key_in file page i = []

abbrev pub key_at : List ℕ → PairPlace → List ℕ
key_at image place = if nat_lt (file_of image).last place.page then [] else key_in (file_of image) (page_at (file_of image) place.page) place.index

-- places compare by the first bytes of their keys, and where these are the same by the keys
abbrev pub place_cmp : List ℕ → PairPlace → PairPlace → Ordering
place_cmp image a b = ordering_then (nat_cmp a.first b.first) (slice_cmp nat_cmp (key_at image a) (key_at image b))

abbrev pub place_less : List ℕ → PairPlace → PairPlace → Bool
place_less image a b = is_lt (place_cmp image a b)
