-- Parts of a file that is being built. A part is the pages that one builder adds, with the metadata that is to name them and the list that
-- they hold. Its pages are a grove: their references stay among them, and each is led up to from an entrance. An entrance is a page of a grove
-- that none of its pages names: metadata will name it, or a page that is still to come.
-- Source: docs/FORMAT.md, "References" and "Stage 3, references" to "Stage 8, contents".
use Rattle.std.specs.Prelude.{◌≡◌, ◌⊎◌, ℕ, ◌+◌, ◌<◌, ◌≤◌, nat_lt, nat_le, ◌==◌, ◌&&◌, ◌||◌, Bool, true, false, IsTrue, List, [], ◌∷◌, map, length, Some, None}
use Rattle.std.specs.List.{Contains, filter, flat_map, list_all, list_any, range_with_len}
use Rattle.bdb_format.specs.declared.references.Reference.{Reference}
use Rattle.bdb_format.specs.declared.references.Sort.{Sort}
use Rattle.bdb_format.specs.declared.references.Sort.TheVariants.{Root, Bucket}
use Rattle.bdb_format.specs.Terms.{Asked, BtreeFields, File, HashFields, LeafPlace, ListKey, Meta, Metadata, Owner, QueueFields, asked_by, chains_in}
use Rattle.bdb_format.specs.Terms.{database_rows, first_holder, first_page, first_row, fit_code, fit_rows, header_in, held_by, is_head_reference}
use Rattle.bdb_format.specs.Terms.{is_root_reference, is_wrong_leaf, is_wrong_length, is_wrong_link, leaves, list_of, page_at, places_from, refs}
use Rattle.bdb_format.specs.ByPage.{holding}

-- the pages of a part, the metadata that is to name them, and the list that they hold
pub record Part : Type 0 where
  pub pages : ℕ → Bool
  pub fields : Metadata
  pub list : List (ListKey × List ℕ)

-- the pages from one number up to another
abbrev pub between : ℕ → ℕ → ℕ → Bool
between first beyond p = nat_le first p && nat_lt p beyond

-- the pages that metadata names, the entrances of its part: a root, or the first page of each bucket
abbrev pub entrances : Metadata → List ℕ
entrances (BtreeFields meta) = meta.root ∷ []
entrances (HashFields meta) = map (λ b. first_page b meta.spares) (range_with_len 0 (meta.max_bucket + 1))
entrances (QueueFields meta) = []

-- the sort of the references by which metadata names them
abbrev pub entrance_sort : Metadata → Sort
entrance_sort (BtreeFields meta) = Root
entrance_sort (HashFields meta) = Bucket
entrance_sort (QueueFields meta) = Bucket

-- what metadata asks of the pages that it names
abbrev pub entrance_asks : Metadata → Asked
entrance_asks fields = asked_by 0 (Meta fields) (entrance_sort fields)

-- the references to a page from pages of a set alone
abbrev pub owners_among : (ℕ → Bool) → File → ℕ → List Owner
owners_among pages file p =
    filter (λ (owner : Owner). owner.reference.target == p) (flat_map (held_by file) (filter pages (range_with_len 0 (file.last + 1))))

-- all of them name the page as the head of a chain
abbrev pub are_heads_alone : List Owner → Bool
are_heads_alone owners = list_all (λ (owner : Owner). is_head_reference owner.reference.sort) owners

-- one owner, or as many references to the head of a chain as it counts
abbrev pub IsOwnedBy : List Owner → ℕ → Type 0
IsOwnedBy owners counted =
    ((length owners ≡ 1) × (IsTrue (are_heads_alone owners) → 1 ≤ counted))
    ⊎ (IsTrue (are_heads_alone owners) × (0 < length owners) × (length owners ≤ counted))

-- each of these pages holds the first reference to the one before it, and the last is an entrance
abbrev pub IsWayIn : File → (ℕ → Bool) → List ℕ → ℕ → List ℕ → Type 0
IsWayIn file pages es p [] = Contains es p
IsWayIn file pages es p (h ∷ hs) = (first_holder (owners_among pages file p) ≡ Some h) × IsWayIn file pages es h hs

-- A grove: pages whose references stay among them, and which are led up to from some of them, the entrances, that none of them names.
-- All that a builder adds is one: a chain is entered by its head, a tree by its root, leaves that no page stands over yet each by itself, a hash by
-- the first pages of its buckets.
pub record IsGrove (file : File) (pages : ℕ → Bool) (es : List ℕ) : Type 0 where
  pub low : (p : ℕ) → pages p ≡ true → 1 ≤ p
  pub high : (p : ℕ) → pages p ≡ true → p ≤ file.last
  -- every reference of these pages fits, and names one of them
  pub fits : (p : ℕ) (r : Reference) → pages p ≡ true → Contains (refs file p) r → fit_code file p r ≡ None
  pub closed : (p : ℕ) (r : Reference) → pages p ≡ true → Contains (refs file p) r → pages r.target ≡ true
  -- the entrances are of these pages, and none of the pages names one
  pub entered : (e : ℕ) → Contains es e → pages e ≡ true
  pub apart : (p : ℕ) (r : Reference) → pages p ≡ true → Contains (refs file p) r → Contains es r.target → ⊥
  -- each other page has owners among these pages, and is led up to from an entrance
  pub owned : (p : ℕ) → pages p ≡ true → (Contains es p → ⊥) → IsOwnedBy (owners_among pages file p) (header_in (page_at file p)).entries
  pub led : (p : ℕ) → pages p ≡ true → (hs : List ℕ) × IsWayIn file pages es p hs

-- no leaf of the tree below this root has a wrong kind or a wrong link
abbrev pub is_wrong_place : File → LeafPlace → Bool
is_wrong_place file place = is_wrong_leaf file place || is_wrong_link file place

abbrev pub has_wrong_place : File → Sort → ℕ → Bool
has_wrong_place file sort root = list_any (is_wrong_place file) (places_from sort 0 (leaves file root))

-- the chains that items of some pages name have their lengths
abbrev pub HaveLengths : File → (ℕ → Type 0) → Type 0
HaveLengths file Of = (p : ℕ) → Of p → list_any (is_wrong_length file) (chains_in (page_at file p)) ≡ false

-- the trees whose roots they name have leaves of their kinds and links
abbrev pub HaveSets : File → (ℕ → Type 0) → Type 0
HaveSets file Of =
    (p : ℕ) (r : Reference) → Of p → Contains (refs file p) r → is_root_reference r.sort ≡ true → has_wrong_place file r.sort r.target ≡ false

-- A branch: a grove that is right by itself, in its chains and its sets off the page too. A builder keeps this of the pages that it has made.
pub record IsBranch (file : File) (pages : ℕ → Bool) (es : List ℕ) : Type 0 where
  pub grove : IsGrove file pages es
  pub chains : HaveLengths file (λ p. pages p ≡ true)
  pub sets : HaveSets file (λ p. pages p ≡ true)

-- the entrances that are roots of trees: a hash has none
abbrev pub entrance_trees : Metadata → List ℕ
entrance_trees (BtreeFields meta) = meta.root ∷ []
entrance_trees (HashFields meta) = []
entrance_trees (QueueFields meta) = []

-- the references that the metadata will hold fit, and name no page twice
pub record AreEntrances (file : File) (fields : Metadata) : Type 0 where
  pub fit : (e : ℕ) → Contains (entrances fields) e → first_row (fit_rows file (entrance_asks fields) e) ≡ None
  pub once : (e : ℕ) → length (filter (λ other. other == e) (entrances fields)) ≤ 1

-- A part: what a builder promises of its pages, but their form, which is a matter of bytes.
pub record IsPart (file : File) (part : Part) : Type 0 where
  pub branch : IsBranch file part.pages (entrances part.fields)
  pub entered : AreEntrances file part.fields
  -- the leaves of its trees have their kinds and links too
  pub trees : (root : ℕ) → Contains (entrance_trees part.fields) root → has_wrong_place file Root root ≡ false
  -- the contents keep their rules
  pub contents : (p : ℕ) → holding (database_rows file part.fields p) ≡ []
  -- and are the list
  pub list : list_of file part.fields ≡ part.list
