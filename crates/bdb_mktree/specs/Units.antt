-- Units as a builder takes them, and what the settings of a database ask of them. Source: docs/FORMAT.md, "Built trees" and "Settings".
use Rattle.std.specs.Prelude.{◌≡◌, ◌⊎◌, ℕ, ◌<◌, Bool, true, false, List, [], ◌∷◌, ◌++◌, length, map}
use Rattle.std.specs.List.{All}
use Rattle.bdb_text_format.specs.of_places.Places.{values_seen}
use Rattle.bdb_text_format.specs.of_format.declared.kinds.Kind.{Kind}
use Rattle.bdb_text_format.specs.of_format.declared.kinds.Kind.TheVariants.{Btree, Recno, Hash, Queue}
use Rattle.bdb_text_format.specs.of_format.declared.settings.Settings.{Settings}
use Rattle.bdb_text_format.specs.of_format.Terms.{ascends}
use Rattle.bdb_mkleaves.specs.Runs.{IsShort}
use Rattle.bdb_mkleaves.specs.Units.{TreeUnit, KeyedUnit, EntryUnit, key_of}
use Rattle.bdb_mkleaves.specs.declared.leaf_type.LeafType.{LeafType}
use Rattle.bdb_mkleaves.specs.declared.leaf_type.LeafType.TheVariants.{Pairs, Records}
use Rattle.bdb_mktree.specs.declared.unit.Unit.{Unit as CodeUnit}
use Rattle.bdb_mktree.specs.declared.unit.Unit.TheVariants.{Keyed, Entry}

-- a unit without where its bytes lie in memory
abbrev pub unit_seen : CodeUnit → TreeUnit
unit_seen (Keyed key values) = KeyedUnit key.now (values_seen values)
unit_seen (Entry value deleted) = EntryUnit value.now deleted

-- a tree is that of a btree or of a recno
abbrev pub IsTreeKind : Kind → Type 0
IsTreeKind kind = (kind ≡ Btree) ⊎ (kind ≡ Recno)

abbrev pub leaf_type_of : Kind → LeafType
leaf_type_of Btree = Pairs
leaf_type_of Recno = Records
leaf_type_of Hash = Pairs
leaf_type_of Queue = Records

-- a key with data: several only where duplicates may stand, ascending ones where they are sorted
pub record SuitsKeyed (settings : Settings) (values : List (List ℕ)) : Type 0 where
  pub kind : settings.kind ≡ Btree
  pub some : 0 < length values
  pub single : settings.duplicates ≡ false → length values ≡ 1
  pub in_order : settings.sorted ≡ true → ascends values ≡ true

-- a record: a missing one has no bytes, another has the length of all, where they have one
pub record SuitsEntry (settings : Settings) (value : List ℕ) (deleted : Bool) : Type 0 where
  pub kind : settings.kind ≡ Recno
  pub missing : deleted ≡ true → value ≡ []
  pub long : settings.fixed ≡ true → deleted ≡ false → length value ≡ settings.re_len

abbrev pub Suits : Settings → TreeUnit → Type 0
Suits settings (KeyedUnit key values) = SuitsKeyed settings values
Suits settings (EntryUnit value deleted) = SuitsEntry settings value deleted

-- the keys of units ascend; records have none
abbrev pub KeysAscend : Settings → List TreeUnit → Type 0
KeysAscend settings units = settings.kind ≡ Btree → ascends (map key_of units) ≡ true

-- a unit comes after others: its key is above theirs
abbrev pub IsNext : Settings → List TreeUnit → TreeUnit → Type 0
IsNext settings units unit = KeysAscend settings (units ++ (unit ∷ []))

-- the lengths of its values fit their fields
abbrev pub IsShortUnit : TreeUnit → Type 0
IsShortUnit (KeyedUnit key values) = IsShort key × All IsShort values
IsShortUnit (EntryUnit value deleted) = IsShort value

-- the items over leaves say how many pairs or records these have: in a recno, and in a btree that counts its pairs
abbrev pub is_counted : Kind → Bool → Bool
is_counted Btree recnum = recnum
is_counted Recno recnum = true
is_counted Hash recnum = false
is_counted Queue recnum = false
