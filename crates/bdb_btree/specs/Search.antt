-- Data and pairs as they are gone through, and what a key has. Source: docs/FORMAT.md, "Items" and "Lists of databases".
use Rattle.std.specs.Prelude.{◌≡◌, ℕ, if◌then◌else◌, Bool, List, [], ◌∷◌, ◌++◌, map, Option}
use Rattle.std.specs.List.{flat_map}
use Rattle.std.specs.Option.{option_to_list}
use Rattle.std.specs.Str.{bytes_eq}
use Rattle.bdb_ranks.specs.of_format.Terms.{BytesKey, File, InternalItem, ListKey, StoredPair, data_of, less, listed_pair, structure_faults, value_of}
use Rattle.bdb_ranks.specs.of_overflow.Datum.{datum_seen, key_view_seen}
use Rattle.bdb_ranks.specs.of_overflow.declared.datum.Datum.{Datum}
use Rattle.bdb_ranks.specs.of_overflow.declared.datum.KeyView.{KeyView}
use Rattle.bdb_btree.specs.Pairs.{AreFit, left_of}

-- the one value of an item that is no set
abbrev pub one_value : Option Datum → List (List ℕ)
one_value datum = map datum_seen (option_to_list datum)

-- a pair that is told: its key and one of its data
abbrev pub entry_seen : (KeyView × Datum) → ListKey × List ℕ
entry_seen entry = (key_view_seen entry.0, datum_seen entry.1)

-- a key with each of these data
abbrev pub under : List ℕ → List (List ℕ) → List (ListKey × List ℕ)
under key values = map (λ value. (BytesKey key, value)) values

-- what is left of a scan: the data of this pair, and the pairs after it
abbrev pub entries_left : File → Option (List (ListKey × List ℕ)) → List StoredPair → List (ListKey × List ℕ)
entries_left file here pairs = left_of here ++ flat_map (listed_pair file) pairs

-- what a walk over pairs keeps of them and of the file
pub record AreOpen (file : File) (pairs : List StoredPair) : Type 0 where
  pub stage : structure_faults file ≡ []
  pub fit : AreFit file pairs

-- the data of a live pair with this key; another pair gives none
abbrev pub data_under : File → List ℕ → StoredPair → List (List ℕ)
data_under file key pair = if bytes_eq pair.key key then (if pair.live then data_of file pair.data_item else []) else []

-- the pairs from the first one with this key on
abbrev pub from_key : List ℕ → List StoredPair → List StoredPair
from_key key [] = []
from_key key (pair ∷ pairs) = if bytes_eq pair.key key then pair ∷ pairs else from_key key pairs

-- the data that are left of a search: those of this pair, and those of the pairs after it with the key
abbrev pub found_left : File → List ℕ → Option (List (List ℕ)) → List StoredPair → List (List ℕ)
found_left file key here pairs = left_of here ++ flat_map (data_under file key) pairs

-- the sought key is less than that of an item
abbrev pub is_below : File → List ℕ → InternalItem → Bool
is_below file key item = less key (value_of file item.key)
