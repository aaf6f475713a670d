-- What is salvaged as pairs of a section, in the making: each chain stands in their run once, and the data of each set.
use Rattle.std.specs.Prelude.{◌≡◌, ◌≤◌, ◌==◌, ◌&&◌, ◌||◌, ◌^◌, nat_lt, ℕ, ◌+◌, Bool, List, ◌++◌, Some, drop, length, map, take}
use Rattle.std.specs.BTreeMap.{BTreeMap, get}
use Rattle.std.specs.List.{enumerate_from, flat_map}
use Rattle.std.specs.Ordering.{nat_cmp}
use Rattle.bdb_text_format.specs.of_format.Terms.{File, chain, joined, pieces_of}
use Rattle.bdb_text_format.specs.of_places.declared.place.PlacedKey.{PlacedKey}
use Rattle.bdb_text_format.specs.declared.pairs.Key.{Key}
use Rattle.bdb_text_format.specs.declared.pairs.Key.TheVariants.{Bytes, Number}
use Rattle.bdb_text_format.specs.declared.pairs.TextPair.{TextPair}
use Rattle.bdb_text_format.specs.Terms.{Gathering, HasChains, IsKeyPlaced, Keeps, pair_with, placed_key}
use Rattle.bdb_rescue.specs.Kept.{Reading, value_at, values_on}

-- a stored pair, and a record with its number, as pairs of a section, without a line
abbrev pub stored_pair : (List ℕ × List ℕ) → TextPair
stored_pair pair = pair_with (Bytes pair.0) pair.1 0

abbrev pub loose_pair : (ℕ × List ℕ) → TextPair
loose_pair placed = pair_with (Number placed.0) placed.1 0

abbrev pub loose_pairs : List (List ℕ) → List TextPair
loose_pairs records = map loose_pair (enumerate_from 1 records)

-- a record has a length that is asked for, where that isn't 0; and one with a number has one of four bytes
abbrev pub has_length : ℕ → (ℕ × List ℕ) → Bool
has_length len placed = len == 0 || length placed.1 == len

abbrev pub is_record_of : ℕ → (ℕ × List ℕ) → Bool
is_record_of len placed = nat_lt placed.0 (2 ^ 32) && has_length len placed

-- a key with each of some data
abbrev pub with_key : Key → List (List ℕ) → List TextPair
with_key key values = map (λ value. pair_with key value 0) values

-- pairs of an image in the making
pub record InHand : Type 0 where
  pub reading : Reading
  pub gathered : Gathering

-- the value of a chain
abbrev pub chain_value : File → ℕ → List ℕ
chain_value file head = joined (pieces_of file head)

-- the data of the set that begins at a page
abbrev pub set_data : File → ℕ → List (List ℕ)
set_data file leaf = map (value_at file) (flat_map (values_on file) (chain file leaf))

-- data stand one behind the other among pairs, from this one on
pub record StandFrom (pairs : List TextPair) (values : List (List ℕ)) (from : ℕ) : Type 0 where
  pub there : from + length values ≤ length pairs
  pub are : map (λ (pair : TextPair). pair.value) (take (length values) (drop from pairs)) ≡ values

-- where a set is noted its data stand
pub record HasSets (file : File) (pairs : List TextPair) (sets : BTreeMap ℕ ℕ) : Type 0 where
  pub each : (leaf from : ℕ) → get nat_cmp sets leaf ≡ Some from → StandFrom pairs (set_data file leaf) from

-- what is noted stands
pub record IsInHand (file : File) (it : Gathering) (noted : BTreeMap ℕ ℕ) : Type 0 where
  pub chains : HasChains (chain_value file) it
  pub sets : HasSets file it.pairs noted

-- the run grew
pub record Grows (old new : InHand) : Type 0 where
  pub reading : new.reading ≡ old.reading
  pub bytes : Keeps old.gathered.bytes new.gathered.bytes
  pub pairs : new.gathered.pairs ≡ old.gathered.pairs

-- pairs of a key that stands in the run were added, with these data
pub record Adds (old new : InHand) (key : PlacedKey) (values : List (List ℕ)) : Type 0 where
  pub reading : new.reading ≡ old.reading
  pub placed : IsKeyPlaced new.gathered.bytes key
  pub same : placed_key new.gathered.bytes key ≡ placed_key old.gathered.bytes key
  pub pairs : new.gathered.pairs ≡ old.gathered.pairs ++ with_key (placed_key old.gathered.bytes key) values
