-- What a tree is built of: units, each of which stands on one leaf. Source: docs/FORMAT.md, "Built trees".
use Rattle.std.specs.Prelude.{ℕ, ◌+◌, ◌-◌, ◌/◌, ◌<◌, ◌≤◌, nat_le, nat_lt, ◌&&◌, not, if◌then◌else◌, Bool, false, List, [], ◌∷◌, length, map}
use Rattle.std.specs.List.{enumerate_from, filter, flat_map, sum_by}
use Rattle.bdb_places.specs.of_format.declared.kinds.Kind.{Kind}
use Rattle.bdb_places.specs.of_format.declared.kinds.Kind.TheVariants.{Btree, Recno, Hash, Queue}
use Rattle.bdb_places.specs.of_format.Terms.{BytesKey, File, Item, ListKey, NumberKey, StoredPair, data_of, entries_in, groups, pad4, page_at, pairs_of}
use Rattle.bdb_places.specs.of_format.Terms.{value_of}

-- a key with all its data, or a record and whether it's deleted
pub data TreeUnit : Type 0 where
  KeyedUnit : List ℕ → List (List ℕ) → TreeUnit
  EntryUnit : List ℕ → Bool → TreeUnit

abbrev pub key_of : TreeUnit → List ℕ
key_of (KeyedUnit key values) = key
key_of (EntryUnit value deleted) = []

-- The units that leaves hold.

-- a pair with those after it that share its key
abbrev pub group_unit : File → (StoredPair × List StoredPair) → TreeUnit
group_unit file group = KeyedUnit group.0.key (flat_map (λ (pair : StoredPair). data_of file pair.data_item) (group.0 ∷ group.1))

abbrev pub keyed_units : File → List StoredPair → List TreeUnit
keyed_units file pairs = map (group_unit file) (filter (λ (group : StoredPair × List StoredPair). not group.0.shares) (groups pairs))

abbrev pub entry_unit : File → Item → TreeUnit
entry_unit file item = EntryUnit (value_of file item.content) item.deleted

-- the units of one leaf
abbrev pub units_on : File → Kind → ℕ → List TreeUnit
units_on file Btree p = keyed_units file (pairs_of file p)
units_on file Recno p = map (entry_unit file) (entries_in (page_at file p))
units_on file Hash p = []
units_on file Queue p = []

-- The list of a tree of units.

-- a key with each of its data
abbrev pub listed_keyed : TreeUnit → List (ListKey × List ℕ)
listed_keyed (KeyedUnit key values) = map (λ value. (BytesKey key, value)) values
listed_keyed (EntryUnit value deleted) = []

-- a record with its number, where it isn't deleted
abbrev pub listed_record : (ℕ × TreeUnit) → List (ListKey × List ℕ)
listed_record (number, KeyedUnit key values) = []
listed_record (number, EntryUnit value deleted) = if deleted then [] else (NumberKey number, value) ∷ []

-- of a btree the pairs of its units, of a recno its records by their numbers from 1, of which deleted ones have one too
abbrev pub list_of_units : Kind → List TreeUnit → List (ListKey × List ℕ)
list_of_units Btree units = flat_map listed_keyed units
list_of_units Recno units = flat_map listed_record (enumerate_from 1 units)
list_of_units Hash units = []
list_of_units Queue units = []

-- What a unit takes of a leaf of a page size.

-- the bytes of a value's item: it stands in it where it's at most an eighth of a page long, and else in a chain
abbrev pub length_cost : ℕ → ℕ → ℕ
length_cost size n = if nat_le n (size / 8) then pad4 (3 + n) else 12

abbrev pub value_cost : ℕ → List ℕ → ℕ
value_cost size value = length_cost size (length value)

-- the bytes of a page behind its header
abbrev pub page_room : ℕ → ℕ
page_room size = size - 26

-- how many pages the chain of a value has: none where it stands on the leaf
abbrev pub length_chain : ℕ → ℕ → ℕ
length_chain size n = if nat_le n (size / 8) then 0 else (n + page_room size - 1) / page_room size

abbrev pub chain_pages : ℕ → List ℕ → ℕ
chain_pages size value = length_chain size (length value)

-- what a record takes, or a datum of a set, by the length of its value: an entry and its item
abbrev pub record_cost : ℕ → ℕ → ℕ
record_cost size n = 2 + length_cost size n

-- a key and its data on the leaf: each datum has two entries and its item
abbrev pub set_cost : ℕ → List ℕ → List (List ℕ) → ℕ
set_cost size key values = value_cost size key + sum_by (λ value. 4 + value_cost size value) values

-- several data that would take more than a quarter of a leaf have a tree of their own
abbrev pub has_own_tree : ℕ → List ℕ → List (List ℕ) → Bool
has_own_tree size key values = nat_lt 1 (length values) && nat_lt ((size - 26) / 4) (set_cost size key values)

abbrev pub unit_has_tree : ℕ → TreeUnit → Bool
unit_has_tree size (KeyedUnit key values) = has_own_tree size key values
unit_has_tree size (EntryUnit value deleted) = false

abbrev pub unit_cost : ℕ → TreeUnit → ℕ
unit_cost size (KeyedUnit key values) = if has_own_tree size key values then value_cost size key + 16 else set_cost size key values
unit_cost size (EntryUnit value deleted) = record_cost size (length value)

-- Units are spread over leaves from left to right: each leaf has room for its units, and the first unit of a leaf had none on the leaf before it.
abbrev pub AreSpread : ℕ → ℕ → List (List TreeUnit) → Type 0
AreSpread size room [] = ⊥
AreSpread size room (units ∷ []) = sum_by (unit_cost size) units ≤ room
AreSpread size room (units ∷ [] ∷ leaves) = ⊥
AreSpread size room (units ∷ (unit ∷ more) ∷ leaves) =
    (sum_by (unit_cost size) units ≤ room) × (room < sum_by (unit_cost size) units + unit_cost size unit)
    × AreSpread size room ((unit ∷ more) ∷ leaves)
