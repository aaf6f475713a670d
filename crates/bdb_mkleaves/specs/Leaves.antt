-- The leaves of a tree that is being built: all but the last are closed, and the last takes entries. Source: docs/FORMAT.md, "Built trees".
use Rattle.std.specs.Prelude.{◌≡◌, ℕ, ◌+◌, ◌-◌, ◌<◌, ◌≤◌, nat_le, Bool, true, false, List, [], ◌∷◌, ◌++◌, length}
use Rattle.bdb_pack.specs.Built.{Built, bytes_of}
use Rattle.bdb_mkleaves.specs.LeafEntries.{Entry, HoldsEntriesOn, room_of}
use Rattle.bdb_mkleaves.specs.declared.leaf_type.LeafType.{LeafType}
use Rattle.bdb_mkleaves.specs.declared.leaves.Leaves.{Leaves}

abbrev pub first_of : List ℕ → ℕ → ℕ
first_of [] beyond = beyond
first_of (p ∷ ps) beyond = p

abbrev pub last_of : ℕ → List ℕ → ℕ
last_of previous [] = previous
last_of previous (p ∷ ps) = last_of p ps

-- leaves in the order of their numbers, which hold these entries: the first comes after one, and the last before another
abbrev pub LeavesFrom : LeafType → Built → ℕ → List ℕ → List (List Entry) → ℕ → Type 0
LeavesFrom type built previous [] [] beyond = Unit {0}
LeavesFrom type built previous [] (entries ∷ others) beyond = ⊥
LeavesFrom type built previous (p ∷ ps) [] beyond = ⊥
LeavesFrom type built previous (p ∷ ps) (entries ∷ others) beyond =
    (previous < p) × HoldsEntriesOn type built p previous (first_of ps beyond) entries × LeavesFrom type built p ps others beyond

-- the closed leaves hold these entries, and the last one those
pub record AreLeaves (leaves : Leaves) (built : Built) (closed : List (List Entry)) (entries : List Entry) : Type 0 where
  pub closed_hold : LeavesFrom leaves.leaf_type built 0 leaves.closed.items closed leaves.last
  pub last_holds : HoldsEntriesOn leaves.leaf_type built leaves.last (last_of 0 leaves.closed.items) 0 entries
  pub after : last_of 0 leaves.closed.items < leaves.last
  pub there : leaves.last < length built.pages

-- some entries
pub record AreSomeLeaves (leaves : Leaves) (built : Built) : Type 0 where
  pub closed : List (List Entry)
  pub entries : List Entry
  pub hold : AreLeaves leaves built closed entries

-- pages of which one may change, and to which others may be added
pub record KeepsOthers (p : ℕ) (old new : Built) : Type 0 where
  pub size : new.size ≡ old.size
  pub order : new.order ≡ old.order
  pub grows : length old.pages ≤ length new.pages
  pub same : (q : ℕ) → q < length old.pages → (q ≡ p → ⊥) → bytes_of new q ≡ bytes_of old q

-- pages of which those before one are as they were, and none is gone
pub record KeepsBefore (first : ℕ) (old new : Built) : Type 0 where
  pub size : new.size ≡ old.size
  pub order : new.order ≡ old.order
  pub grows : length old.pages ≤ length new.pages
  pub same : (p : ℕ) → p < first → bytes_of new p ≡ bytes_of old p

-- so are all pages that stood
abbrev pub KeepsAll : Built → Built → Type 0
KeepsAll old new = KeepsBefore (length old.pages) old new

-- a new last leaf behind all pages; the one before it is closed
pub record IsOpened (leaves next : Leaves) (old new : Built) : Type 0 where
  pub type : next.leaf_type ≡ leaves.leaf_type
  pub numbers : next.closed.items ≡ leaves.closed.items ++ (leaves.last ∷ [])
  pub last : next.last ≡ length old.pages
  pub count : length new.pages ≡ length old.pages + 1
  pub room : room_of new.order (bytes_of new next.last) ≡ old.size - 26
  pub kept : KeepsOthers leaves.last old new
  pub hold : (closed : List (List Entry)) (entries : List Entry) → AreLeaves leaves old closed entries
      → AreLeaves next new (closed ++ (entries ∷ [])) []

-- the leaves, of which the last has room for so many bytes: as before, or with a new last one
abbrev pub HasRoomNow : Bool → Leaves → Leaves → Built → Built → Type 0
HasRoomNow true leaves next old new = (next ≡ leaves) × (new ≡ old)
HasRoomNow false leaves next old new = IsOpened leaves next old new

abbrev pub has_room : Leaves → Built → ℕ → Bool
has_room leaves built cost = nat_le cost (room_of built.order (bytes_of built leaves.last))
