-- Pairs of a btree of a base in the making: each chain stands in their run once.
use Rattle.std.specs.Prelude.{◌≡◌, ℕ, List, ◌++◌, map}
use Rattle.bdb_text_format.specs.of_places.declared.place.PlacedKey.{PlacedKey}
use Rattle.bdb_text_format.specs.declared.pairs.Key.{Key}
use Rattle.bdb_text_format.specs.declared.pairs.Key.TheVariants.{Bytes}
use Rattle.bdb_text_format.specs.declared.pairs.TextPair.{TextPair}
use Rattle.bdb_onto.specs.Replaced.{AreEnough}
use Rattle.bdb_onto.specs.declared.beside.Beside.{Beside}
use Rattle.bdb_text_format.specs.Terms.{Gathering, IsKeyPlaced, Keeps, pair_with, placed_key, slice_seen}

-- pairs of an image
pub record ImageInHand : Type 0 where
  pub image : List ℕ
  pub gathered : Gathering

-- a key with each of some data
abbrev pub with_key : Key → List (List ℕ) → List TextPair
with_key key values = map (λ value. pair_with key value 0) values

-- the run grew
pub record Grows (old new : ImageInHand) : Type 0 where
  pub image : new.image ≡ old.image
  pub bytes : Keeps old.gathered.bytes new.gathered.bytes
  pub pairs : new.gathered.pairs ≡ old.gathered.pairs

-- pairs of a key that stands in the run were added, with these data
pub record Adds (old new : ImageInHand) (key : PlacedKey) (values : List (List ℕ)) : Type 0 where
  pub image : new.image ≡ old.image
  pub placed : IsKeyPlaced new.gathered.bytes key
  pub same : placed_key new.gathered.bytes key ≡ placed_key old.gathered.bytes key
  pub pairs : new.gathered.pairs ≡ old.gathered.pairs ++ with_key (placed_key old.gathered.bytes key) values

-- these bytes stand in the run as a key
pub record HasKey (it : ImageInHand) (bytes : List ℕ) (key : PlacedKey) : Type 0 where
  pub placed : IsKeyPlaced it.gathered.bytes key
  pub same : placed_key it.gathered.bytes key ≡ Bytes bytes

-- Pairs of which a section replaces some, which may be left out.

abbrev pub IsEnough : Beside → List TextPair → List TextPair → Type 0
IsEnough beside full kept = AreEnough beside.settings (slice_seen beside.pairs) full kept

-- pairs were added, or enough of them
pub record AddsEnough (beside : Beside) (old new full : List TextPair) : Type 0 where
  pub kept : List TextPair
  pub are : new ≡ old ++ kept
  pub enough : IsEnough beside full kept

-- of all pairs enough were added behind those at the beginning, and these are still to come
pub record AreListing (beside : Beside) (begin now all rest : List TextPair) : Type 0 where
  pub full : List TextPair
  pub split : all ≡ full ++ rest
  pub adds : AddsEnough beside begin now full
