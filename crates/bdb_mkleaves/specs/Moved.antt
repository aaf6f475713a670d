-- The first leaf is moved behind all pages, so that the root of its tree may stand on its page. Source: docs/FORMAT.md, "Built trees".
use Rattle.std.specs.Prelude.{◌≡◌, ℕ, ◌+◌, ◌<◌, List, [], ◌∷◌, ◌++◌, drop, length, replicate, set}
use Rattle.std.specs.List.{Contains}
use Rattle.bdb_pack.specs.of_law_grove.Leaves.{Ascend}
use Rattle.bdb_pack.specs.Built.{AreWhole, Built, bytes_of}
use Rattle.bdb_mkleaves.specs.LeafEntries.{Entry, HoldsEntriesOn, with_field}
use Rattle.bdb_mkleaves.specs.Leaves.{AreLeaves, KeepsOthers, first_of}
use Rattle.bdb_mkleaves.specs.declared.leaf_type.LeafType.{LeafType}
use Rattle.bdb_mkleaves.specs.declared.leaves.Leaves.{Leaves}

-- A page is moved behind all pages and has its number there; zeros stand in its place, and no other page changes.
pub record IsMoved (from number : ℕ) (old new : Built) : Type 0 where
  pub behind : number ≡ length old.pages
  pub count : length new.pages ≡ length old.pages + 1
  pub blank : bytes_of new from ≡ replicate old.size 0
  pub bytes : bytes_of new number ≡ with_field old.order (bytes_of old from) 8 number
  pub kept : KeepsOthers from old new
  pub whole : AreWhole new
  pub holds : (type : LeafType) (previous next : ℕ) (entries : List Entry) → HoldsEntriesOn type old from previous next entries
      → HoldsEntriesOn type new number previous next entries

-- leaves that hold these entries, whatever the order of their numbers: the first comes after one, and the last before another
abbrev pub LinkedFrom : LeafType → Built → ℕ → List ℕ → List (List Entry) → ℕ → Type 0
LinkedFrom type built previous [] [] beyond = Unit {0}
LinkedFrom type built previous [] (entries ∷ others) beyond = ⊥
LinkedFrom type built previous (p ∷ ps) [] beyond = ⊥
LinkedFrom type built previous (p ∷ ps) (entries ∷ others) beyond =
    HoldsEntriesOn type built p previous (first_of ps beyond) entries × LinkedFrom type built p ps others beyond

-- the pages of all leaves
abbrev pub numbers_of : Leaves → List ℕ
numbers_of leaves = leaves.closed.items ++ (leaves.last ∷ [])

-- the leaves, of which none is before the first or after the last
abbrev pub AreLinked : Leaves → Built → List (List Entry) → Type 0
AreLinked leaves built all = LinkedFrom leaves.leaf_type built 0 (numbers_of leaves) all 0

abbrev pub first_leaf : Leaves → ℕ
first_leaf leaves = first_of leaves.closed.items leaves.last

abbrev pub second_leaf : Leaves → ℕ
second_leaf leaves = first_of (drop 1 leaves.closed.items) leaves.last

-- The first leaf of several is moved, and the second one has it as previous page. Zeros stand in its place, and no other page changes.
pub record IsFirstMoved (leaves next : Leaves) (old new : Built) : Type 0 where
  pub type : next.leaf_type ≡ leaves.leaf_type
  pub numbers : next.closed.items ≡ set leaves.closed.items 0 (length old.pages)
  pub last : next.last ≡ leaves.last
  pub size : new.size ≡ old.size
  pub order : new.order ≡ old.order
  pub whole : AreWhole new
  pub count : length new.pages ≡ length old.pages + 1
  pub blank : bytes_of new (first_leaf leaves) ≡ replicate old.size 0
  pub moved : bytes_of new (length old.pages) ≡ with_field old.order (bytes_of old (first_leaf leaves)) 8 (length old.pages)
  pub second : bytes_of new (second_leaf leaves) ≡ with_field old.order (bytes_of old (second_leaf leaves)) 12 (length old.pages)
  pub same : (q : ℕ) → q < length old.pages → (q ≡ first_leaf leaves → ⊥) → (q ≡ second_leaf leaves → ⊥) → bytes_of new q ≡ bytes_of old q
  -- the numbers of the others ascend, above that of the root and below the new one
  pub rise : Ascend (first_leaf leaves) (drop 1 (numbers_of next))
  pub below : (q : ℕ) → Contains (drop 1 (numbers_of next)) q → q < length old.pages
  pub hold : (closed : List (List Entry)) (entries : List Entry) → AreLeaves leaves old closed entries → AreLinked next new (closed ++ (entries ∷ []))
