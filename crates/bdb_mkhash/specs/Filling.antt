-- What is put on pages of a table: items, keys with their data, the keys of a page, of a bucket, and of all buckets.
-- Source: docs/FORMAT.md, "Built tables" and "Stored values".
use Rattle.std.specs.Prelude.{◌≡◌, ◌⊎◌, ℕ, ◌+◌, ◌%◌, ◌<◌, ◌≤◌, ◌==◌, ◌&&◌, ◌||◌, not, Bool, true, false, List, [], ◌∷◌, ◌++◌, drop, get_or, length, map, take}
use Rattle.std.specs.Prelude.{None}
use Rattle.std.specs.List.{sum_by}
use Rattle.bdb_mktree.specs.of_format.declared.kinds.Order.{Order}
use Rattle.bdb_mktree.specs.of_format.Terms.{Content, File, data_of, is_set, is_wrong_set, page_code}
use Rattle.bdb_mktree.specs.of_law_grove.Growing.{IsCounted, IsLater}
use Rattle.bdb_mktree.specs.of_law_grove.Part.{between}
use Rattle.bdb_mktree.specs.of_pack.Built.{Built, bytes_of, file_so_far}
use Rattle.bdb_mktree.specs.of_pack.Items.{HasPlace, IsWritable, OnHash}
use Rattle.bdb_mktree.specs.of_mkleaves.Leaves.{KeepsOthers}
use Rattle.bdb_mktree.specs.of_mkleaves.Puts.{IsItemOf}
use Rattle.bdb_mktree.specs.of_mkleaves.Spread.{spread_on}
use Rattle.bdb_mktree.specs.of_mkleaves.Units.{page_room}
use Rattle.bdb_law_buckets.specs.Pages.{hash_item}
use Rattle.bdb_law_buckets.specs.Tables.{BucketStands, ContentsStand, HasSum, Keyed, PlacedUnit, TableStands, UnitStands, UnitsStand, contents_of, contents_on}
use Rattle.bdb_law_buckets.specs.Tables.{unit_of}
use Rattle.bdb_mkhash.specs.Buckets.{spread_bucket}
use Rattle.bdb_mkhash.specs.Costs.{data_cost, data_form, hash_item_cost, keyed_own_pages, pages_in, keyed_cost}
use Rattle.bdb_mkhash.specs.Pages.{HoldsContentsOn, content_cost, room_of}

-- an item for a value, which is stored in a chain behind all pages where it's long
pub record IsHashItem (old new : Built) (value : List ℕ) (content : Content) : Type 0 where
  pub item : IsItemOf old new value false (hash_item content)
  pub fits : IsWritable (OnHash content)
  pub place : (index : ℕ) → HasPlace 2 index (OnHash content)
  pub cost : (order : Order) → content_cost order content ≡ hash_item_cost old.size value

-- an item that a page gets at its end, while no other page changes
pub record IsGrown (p : ℕ) (old new : Built) (content : Content) : Type 0 where
  pub kept : KeepsOthers p old new
  pub count : length new.pages ≡ length old.pages
  pub long : length (bytes_of new p) ≡ length (bytes_of old p)
  pub hold : (previous next : ℕ) (contents : List Content) → HoldsContentsOn old p previous next contents
      → HoldsContentsOn new p previous next (contents ++ (content ∷ []))

-- a value is put on a page: its item is stored, and added
pub record IsValuePut (p : ℕ) (old new : Built) (value : List ℕ) : Type 0 where
  pub between : Built
  pub content : Content
  pub stored : IsHashItem old between value content
  pub grown : IsGrown p between new content

-- a page that takes items
pub record IsOpenPage (p : ℕ) (built : Built) : Type 0 where
  pub there : p < length built.pages
  pub previous : ℕ
  pub contents : List Content
  pub holds : HoldsContentsOn built p previous 0 contents

-- a page with whole pairs
pub record IsWholePage (p : ℕ) (built : Built) : Type 0 where
  pub there : p < length built.pages
  pub previous : ℕ
  pub contents : List Content
  pub holds : HoldsContentsOn built p previous 0 contents
  pub even : length contents % 2 ≡ 0

-- with a key, and without its data yet
pub record IsHalfPage (p : ℕ) (built : Built) : Type 0 where
  pub there : p < length built.pages
  pub previous : ℕ
  pub contents : List Content
  pub holds : HoldsContentsOn built p previous 0 contents
  pub odd : length contents % 2 ≡ 1

abbrev pub room_on : Built → ℕ → ℕ
room_on built p = room_of built.order (bytes_of built p)

-- in a file data stand, with the pages from one number up to another
pub record DataStand (g : File) (sorted : Bool) (first beyond : ℕ) (content : Content) (values : List (List ℕ)) : Type 0 where
  pub on : ContentsStand g first beyond (content ∷ [])
  pub values_are : data_of g content ≡ values
  pub single : length values ≡ 1 → is_set content ≡ false
  pub right : is_wrong_set g sorted content ≡ false
  pub summed : HasSum g content

-- The data of a key are put on a page: in a later file the pages that are added are those that their item names.
pub record AreDataPut (p : ℕ) (old new : Built) (sorted : Bool) (values : List (List ℕ)) : Type 0 where
  pub kept : KeepsOthers p old new
  pub long : length (bytes_of new p) ≡ length (bytes_of old p)
  pub content : Content
  pub hold : (previous next : ℕ) (contents : List Content) → HoldsContentsOn old p previous next contents
      → HoldsContentsOn new p previous next (contents ++ (content ∷ []))
  pub cost : content_cost old.order content ≡ data_cost old.size values
  pub stands : (g : File) → IsCounted g → IsLater (between (length old.pages) (length new.pages)) (file_so_far new) g
      → DataStand g sorted (length old.pages) (length new.pages) content values
  pub formed : (q : ℕ) → length old.pages ≤ q → q < length new.pages → page_code new.order q (bytes_of new q) ≡ None
  pub count : length new.pages ≡ length old.pages + pages_in (data_form old.size values) old.size sorted values

-- A key with its data is put on a page.
pub record IsUnitPut (p : ℕ) (old new : Built) (sorted : Bool) (unit : Keyed) : Type 0 where
  pub kept : KeepsOthers p old new
  pub long : length (bytes_of new p) ≡ length (bytes_of old p)
  pub placed : PlacedUnit
  pub is : placed.unit ≡ unit
  pub beyond : placed.beyond ≡ length new.pages
  pub hold : (previous next : ℕ) (contents : List Content) → HoldsContentsOn old p previous next contents
      → HoldsContentsOn new p previous next (contents ++ contents_of placed)
  pub cost : sum_by (content_cost old.order) (contents_of placed) ≡ keyed_cost old.size unit
  pub stands : (g : File) → IsCounted g → IsLater (between (length old.pages) (length new.pages)) (file_so_far new) g
      → UnitStands g sorted (length old.pages) (length new.pages) placed
  pub formed : (q : ℕ) → length old.pages ≤ q → q < length new.pages → page_code new.order q (bytes_of new q) ≡ None
  pub count : length new.pages ≡ length old.pages + keyed_own_pages old.size sorted unit

-- Keys are put on a page that had none.
pub record ArePut (p : ℕ) (old new : Built) (sorted : Bool) (units : List Keyed) : Type 0 where
  pub kept : KeepsOthers p old new
  pub placed : List PlacedUnit
  pub are : map unit_of placed ≡ units
  pub hold : (previous next : ℕ) → HoldsContentsOn old p previous next [] → HoldsContentsOn new p previous next (contents_on placed)
  pub room : room_on new p + sum_by (keyed_cost old.size) units ≡ page_room old.size
  pub stands : (g : File) → IsCounted g → IsLater (between (length old.pages) (length new.pages)) (file_so_far new) g
      → UnitsStand g sorted (length old.pages) (length new.pages) placed
  pub formed : (q : ℕ) → length old.pages ≤ q → q < length new.pages → page_code new.order q (bytes_of new q) ≡ None
  pub count : length new.pages ≡ length old.pages + sum_by (keyed_own_pages old.size sorted) units

abbrev pub no_unit : Keyed
no_unit = record { key = []; values = [] }

-- Of some keys the first are put on a page that had none: as many as have room there.
pub record IsPageFilled (p : ℕ) (old new : Built) (sorted : Bool) (units : List Keyed) (n : ℕ) : Type 0 where
  pub few : n ≤ length units
  pub put : ArePut p old new sorted (take n units)
  pub full : (n ≡ length units) ⊎ ((n < length units) × (room_on new p < keyed_cost old.size (get_or units n no_unit)))

-- a page without keys
pub record IsEmptyPage (p : ℕ) (built : Built) : Type 0 where
  pub there : p < length built.pages
  pub previous : ℕ
  pub holds : HoldsContentsOn built p previous 0 []

-- An empty page is added behind all pages, as the next one of a page.
pub record IsFollowed (p : ℕ) (old new : Built) (next : ℕ) : Type 0 where
  pub kept : KeepsOthers p old new
  pub number : next ≡ length old.pages
  pub count : length new.pages ≡ length old.pages + 1
  pub holds : HoldsContentsOn new next p 0 []
  pub hold : (previous before : ℕ) (contents : List Content) → HoldsContentsOn old p previous before contents
      → HoldsContentsOn new p previous next contents

-- the pages of a bucket: its first, and those from a number on
abbrev pub of_bucket : ℕ → ℕ → ℕ → ℕ → Bool
of_bucket p first beyond q = (q == p) || between first beyond q

-- The keys of a bucket are put on its pages, of which the first had none.
pub record IsBucketFilled (p : ℕ) (old new : Built) (sorted : Bool) (units : List Keyed) : Type 0 where
  pub kept : KeepsOthers p old new
  pub pages : List (List PlacedUnit)
  pub spread : map (map unit_of) pages ≡ spread_bucket old.size units
  pub stands : (g : File) → IsCounted g → IsLater (of_bucket p (length old.pages) (length new.pages)) (file_so_far new) g
      → BucketStands g sorted 0 p (length old.pages) (length new.pages) pages
  pub formed : (q : ℕ) → of_bucket p (length old.pages) (length new.pages) q ≡ true → page_code new.order q (bytes_of new q) ≡ None
  pub count : length new.pages + 1 ≡ length old.pages + length pages + sum_by (keyed_own_pages old.size sorted) units

-- the pages of a bucket that are closed: all but the open one
abbrev pub closed_of : ℕ → ℕ → ℕ → ℕ → ℕ → Bool
closed_of p first beyond current q = of_bucket p first beyond q && not (q == current)

-- The keys of a bucket are put on its pages so far; the last page is open, and these are left.
pub record IsBucketOpen (p : ℕ) (old now : Built) (sorted : Bool) (units : List Keyed) (current done : ℕ) : Type 0 where
  pub few : done ≤ length units
  pub kept : KeepsOthers p old now
  pub there : current < length now.pages
  pub own : of_bucket p (length old.pages) (length now.pages) current ≡ true
  pub start : ℕ
  pub from : length old.pages ≤ start
  pub up : start ≤ length now.pages
  -- its own pages stand behind it, or behind the first pages of all buckets
  pub behind : ((current ≡ p) × (start ≡ length old.pages)) ⊎ ((length old.pages ≤ current) × (current + 1 ≡ start))
  pub previous : ℕ
  pub last : List PlacedUnit
  pub holds : HoldsContentsOn now current previous 0 (contents_on last)
  pub room : room_on now current + sum_by (keyed_cost old.size) (map unit_of last) ≡ page_room old.size
  pub last_stands : (g : File) → IsCounted g → IsLater (between start (length now.pages)) (file_so_far now) g
      → UnitsStand g sorted start (length now.pages) last
  pub closed : List (List PlacedUnit)
  pub stands : (g : File) → IsCounted g → IsLater (closed_of p (length old.pages) start current) (file_so_far now) g → (beyond : ℕ)
      (units : List PlacedUnit) (more : List (List PlacedUnit)) → BucketStands g sorted previous current start beyond (units ∷ more)
      → BucketStands g sorted 0 p (length old.pages) beyond (closed ++ (units ∷ more))
  pub formed : (q : ℕ) → closed_of p (length old.pages) (length now.pages) current q ≡ true → page_code now.order q (bytes_of now q) ≡ None
  pub spread : spread_bucket old.size units
      ≡ map (map unit_of) closed
      ++ spread_on (page_room old.size) (keyed_cost old.size) (keyed_cost old.size) (room_on now current) (map unit_of last) (drop done units)
  pub full : (done ≡ length units) ⊎ ((done < length units) × (room_on now current < keyed_cost old.size (get_or units done no_unit)))
  pub count : length now.pages ≡ length old.pages + length closed + sum_by (keyed_own_pages old.size sorted) (take done units)

-- the pages of the first buckets: their first ones, and those from a number on
abbrev pub of_buckets : ℕ → ℕ → ℕ → ℕ → ℕ → Bool
of_buckets p n first beyond q = between p (p + n) q || between first beyond q

-- The keys of the first buckets are put on their pages; the first pages of all buckets follow each other.
pub record AreFilled (p : ℕ) (old new : Built) (sorted : Bool) (buckets : List (List Keyed)) : Type 0 where
  pub size : new.size ≡ old.size
  pub order : new.order ≡ old.order
  pub grows : length old.pages ≤ length new.pages
  pub same : (q : ℕ) → q < length old.pages → between p (p + length buckets) q ≡ false → bytes_of new q ≡ bytes_of old q
  pub pages : List (List (List PlacedUnit))
  pub spread : map (map (map unit_of)) pages ≡ map (spread_bucket old.size) buckets
  pub stands : (g : File) → IsCounted g → IsLater (of_buckets p (length buckets) (length old.pages) (length new.pages)) (file_so_far new) g
      → TableStands g sorted p (length old.pages) (length new.pages) pages
  pub formed : (q : ℕ) → of_buckets p (length buckets) (length old.pages) (length new.pages) q ≡ true → page_code new.order q (bytes_of new q) ≡ None
  pub count : length new.pages + length buckets
      ≡ length old.pages + sum_by (λ bucket. length (spread_bucket old.size bucket)) buckets + sum_by
      (λ bucket. sum_by (keyed_own_pages old.size sorted) bucket) buckets

-- pages without keys, as many, from a number on
abbrev pub AreEmptyPages : ℕ → ℕ → Built → Type 0
AreEmptyPages p n built = (k : ℕ) → k < n → (p + k < length built.pages) × HoldsContentsOn built (p + k) 0 0 []
