-- The units of a list of pairs, and the lists that a tree can be built of. Source: docs/FORMAT.md, "Built trees".
use Rattle.std.specs.Prelude.{◌≡◌, ℕ, ◌+◌, ◌-◌, ◌≤◌, ◌<◌, ◌^◌, drop, ◌&&◌, ◌||◌, nat_lt, not, if◌then◌else◌, Bool, true, false, List, [], ◌∷◌, ◌++◌, length}
use Rattle.std.specs.Prelude.{replicate, Option, option_map, slice_get}
use Rattle.std.specs.List.{All}
use Rattle.std.specs.Str.{bytes_eq}
use Rattle.bdb_text_format.specs.of_format.declared.kinds.Kind.{Kind}
use Rattle.bdb_text_format.specs.of_format.declared.kinds.Kind.TheVariants.{Btree, Recno, Hash, Queue}
use Rattle.bdb_text_format.specs.of_format.declared.settings.Settings.{Settings}
use Rattle.bdb_text_format.specs.of_format.Terms.{less}
use Rattle.bdb_text_format.specs.declared.pairs.Pair.{Pair}
use Rattle.bdb_text_format.specs.declared.pairs.Key.{Key}
use Rattle.bdb_text_format.specs.declared.pairs.Key.TheVariants.{Bytes, Number}
use Rattle.bdb_text_format.specs.declared.pairs.TextPair.{TextPair}
use Rattle.bdb_text_format.specs.Terms.{AscendFrom, number_of}
use Rattle.bdb_mkleaves.specs.Placed.{values_in}
use Rattle.bdb_mkleaves.specs.Runs.{IsShort}
use Rattle.bdb_mkleaves.specs.Units.{TreeUnit, KeyedUnit, EntryUnit}

-- Keys.

abbrev pub has_key : List ℕ → Key → Bool
has_key key (Bytes other) = bytes_eq other key
has_key key (Number number) = false

-- whether the key of a pair is this one; nothing where there is none
abbrev pub has_key_at : List ℕ → List TextPair → ℕ → Option Bool
has_key_at key pairs n = option_map (λ (pair : TextPair). has_key key pair.key) (slice_get pairs n)

abbrev pub bytes_in : Key → List ℕ
bytes_in (Bytes key) = key
bytes_in (Number number) = []

abbrev pub HasBytes : Key → Type 0
HasBytes (Bytes key) = Unit {0}
HasBytes (Number number) = ⊥

abbrev pub HasNumber : Key → Type 0
HasNumber (Bytes key) = ⊥
HasNumber (Number number) = Unit {0}

-- Units.

-- a pair before units: its datum is one more of the first unit where that has its key
abbrev pub onto_units : List ℕ → List ℕ → List TreeUnit → List TreeUnit
onto_units key value [] = KeyedUnit key (value ∷ []) ∷ []
onto_units key value (KeyedUnit other values ∷ units) =
    if bytes_eq key other then KeyedUnit other (value ∷ values) ∷ units
    else KeyedUnit key (value ∷ []) ∷ KeyedUnit other values ∷ units
onto_units key value (EntryUnit other deleted ∷ units) = KeyedUnit key (value ∷ []) ∷ EntryUnit other deleted ∷ units

-- each key with the data of the pairs that have it one after the other
abbrev pub keyed_units : List Pair → List TreeUnit
keyed_units [] = []
keyed_units (pair ∷ pairs) = onto_units (bytes_in pair.key) pair.value (keyed_units pairs)

abbrev pub missing : TreeUnit
missing = EntryUnit [] true

-- each record from a number on, after those that are missing before it
abbrev pub record_units : ℕ → List Pair → List TreeUnit
record_units next [] = []
record_units next (pair ∷ pairs) =
    replicate (number_of pair.key - next) missing ++ (EntryUnit pair.value false ∷ record_units (number_of pair.key + 1) pairs)

abbrev pub units_in : Kind → List Pair → List TreeUnit
units_in Btree pairs = keyed_units pairs
units_in Recno pairs = record_units 1 pairs
units_in Hash pairs = []
units_in Queue pairs = []

-- Lists that a tree can be built of.

-- the keys are those of the kind, and the numbers of records ascend from 1
abbrev pub AreKeysOf : Kind → List Pair → Type 0
AreKeysOf Btree pairs = All (λ (pair : Pair). HasBytes pair.key) pairs
AreKeysOf Recno pairs = AscendFrom 1 pairs
AreKeysOf Hash pairs = Unit {0}
AreKeysOf Queue pairs = Unit {0}

abbrev pub IsKeyFor : Kind → Key → Type 0
IsKeyFor Btree key = HasBytes key × IsShort (bytes_in key)
IsKeyFor Recno key = HasNumber key × (1 ≤ number_of key)
IsKeyFor Hash key = ⊥
IsKeyFor Queue key = ⊥

-- a pair has a key of the kind and a datum that fits its field; a record has the length of all where they have one
pub record IsPairFor (settings : Settings) (pair : Pair) : Type 0 where
  pub key : IsKeyFor settings.kind pair.key
  pub short : IsShort pair.value
  pub long : settings.kind ≡ Recno → settings.fixed ≡ true → length pair.value ≡ settings.re_len

-- a datum may be one more of a key: where duplicates may stand, and where they are sorted above the one before it
abbrev pub is_further : Settings → List ℕ → List ℕ → Bool
is_further settings before value = settings.duplicates && (not settings.sorted || less before value)

-- a pair may come right after another: its key is above the other's, or its datum is one more of the same key
abbrev pub keyed_follow : Settings → Pair → Pair → Bool
keyed_follow settings before pair =
    less (bytes_in before.key) (bytes_in pair.key)
    || (bytes_eq (bytes_in before.key) (bytes_in pair.key) && is_further settings before.value pair.value)

abbrev pub may_follow : Kind → Settings → Pair → Pair → Bool
may_follow Btree settings before pair = keyed_follow settings before pair
may_follow Recno settings before pair = nat_lt (number_of before.key) (number_of pair.key)
may_follow Hash settings before pair = false
may_follow Queue settings before pair = false

abbrev pub is_in_order : Settings → List Pair → Bool
is_in_order settings [] = true
is_in_order settings (pair ∷ []) = true
is_in_order settings (pair ∷ next ∷ pairs) = may_follow settings.kind settings pair next && is_in_order settings (next ∷ pairs)

-- a list in its order, as loading makes it with these settings
pub record IsTreeList (settings : Settings) (pairs : List Pair) : Type 0 where
  pub each : All (IsPairFor settings) pairs
  pub in_order : is_in_order settings pairs ≡ true

-- Units one after the other.

-- the pairs from one place up to another are this unit, and those from there on are not of it
pub record IsRunAt (pairs : List Pair) (start : ℕ) (unit : TreeUnit) (end : ℕ) : Type 0 where
  pub ahead : start < end
  pub within : end ≤ length pairs
  pub many : end ≡ start + length (values_in unit)
  pub units : keyed_units (drop start pairs) ≡ unit ∷ keyed_units (drop end pairs)

-- the record with a number is this unit: that of the pair at a place, or a missing one before it
pub record IsRecordAt (pairs : List Pair) (place number : ℕ) (unit : TreeUnit) (end : ℕ) : Type 0 where
  pub within : end ≤ length pairs
  pub units : record_units number (drop place pairs) ≡ unit ∷ record_units (number + 1) (drop end pairs)
  pub ascend : AscendFrom (number + 1) (drop end pairs)
  pub few : number < 2 ^ 32
