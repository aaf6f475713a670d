-- Pairs by the places of their keys and data in a run of bytes, and pairs that are lent.
use Rattle.std.specs.Prelude.{◌≡◌, ◌==◌, ◌&&◌, ◌≤◌, ℕ, Bool, false, List, get_or, length, map, take}
use Rattle.std.specs.List.{All}
use Rattle.bdb_places.specs.Places.{span_in, value_at}
use Rattle.bdb_places.specs.declared.place.Place.{Place}
use Rattle.bdb_places.specs.declared.place.PlacedKey.{PlacedKey}
use Rattle.bdb_places.specs.declared.place.PlacedKey.TheVariants.{Bytes as BytesAt, Number as NumberAt}
use Rattle.bdb_places.specs.declared.span.Span.{Span}
use Rattle.bdb_text_format.specs.declared.lent.KeyRef.{KeyRef}
use Rattle.bdb_text_format.specs.declared.lent.KeyRef.TheVariants.{Bytes as BytesRef, Number as NumberRef}
use Rattle.bdb_text_format.specs.declared.lent.PairRef.{PairRef}
use Rattle.bdb_text_format.specs.declared.lent.PairSlice.{PairSlice}
use Rattle.bdb_text_format.specs.declared.pairs.Key.{Key}
use Rattle.bdb_text_format.specs.declared.pairs.Key.TheVariants.{Bytes, Number}
use Rattle.bdb_text_format.specs.declared.pairs.Pair.{Pair}
use Rattle.bdb_text_format.specs.declared.pairs.TextPair.{TextPair}
use Rattle.bdb_text_format.specs.Pairs.{unlined_pairs}

-- the key at a place
abbrev pub placed_key : List ℕ → PlacedKey → Key
placed_key bytes (BytesAt span) = Bytes (span_in bytes span)
placed_key bytes (NumberAt number) = Number number

-- the pair at a place
abbrev pub placed_pair : List ℕ → Place → TextPair
placed_pair bytes place = record { key = placed_key bytes place.key; value = value_at bytes place; line = place.line }

abbrev pub placed_pairs : List ℕ → List Place → List TextPair
placed_pairs bytes places = map (placed_pair bytes) places

-- whether two keys are one: bytes at one place, or one number
abbrev pub are_one : PlacedKey → PlacedKey → Bool
are_one (BytesAt a) (BytesAt b) = (a.start == b.start) && (a.end == b.end)
are_one (BytesAt a) (NumberAt n) = false
are_one (NumberAt m) (BytesAt b) = false
are_one (NumberAt m) (NumberAt n) = m == n

-- what is lent
abbrev pub key_seen : KeyRef → Key
key_seen (BytesRef bytes) = Bytes bytes.now
key_seen (NumberRef number) = Number number

abbrev pub pair_seen : PairRef → TextPair
pair_seen pair = record { key = key_seen pair.key; value = pair.value.now; line = pair.line }

abbrev pub slice_seen : PairSlice → List TextPair
slice_seen pairs = placed_pairs pairs.bytes.now pairs.places.now

-- where the key of a pair stands
abbrev pub key_place : PairSlice → ℕ → PlacedKey
key_place pairs i = get_or (map (λ (place : Place). place.key) pairs.places.now) i (NumberAt 0)

-- whether two pairs have one key
abbrev pub share_key : PairSlice → ℕ → ℕ → Bool
share_key pairs i j = are_one (key_place pairs i) (key_place pairs j)

abbrev pub pairs_of : PairSlice → List Pair
pairs_of pairs = unlined_pairs (slice_seen pairs)

-- a run has all bytes of a key
abbrev pub IsKeyPlaced : List ℕ → PlacedKey → Type 0
IsKeyPlaced bytes (BytesAt span) = (span.start ≤ span.end) × (span.end ≤ length bytes)
IsKeyPlaced bytes (NumberAt number) = Unit {0}

-- and of a pair
pub record IsPlaced (bytes : List ℕ) (place : Place) : Type 0 where
  pub key : IsKeyPlaced bytes place.key
  pub begin : place.value.start ≤ place.value.end
  pub end : place.value.end ≤ length bytes

abbrev pub ArePlaced : List ℕ → List Place → Type 0
ArePlaced bytes places = All (IsPlaced bytes) places

-- what a run had it has still
abbrev pub Keeps : List ℕ → List ℕ → Type 0
Keeps old new = take (length old) new ≡ old

-- a pair of a key
abbrev pub pair_with : Key → List ℕ → ℕ → TextPair
pair_with key value line = record { key = key; value = value; line = line }

-- a piece, a key and a pair that were put into a run
pub record IsPiecePut (bytes piece : List ℕ) (span : Span) : Type 0 where
  pub begin : span.start ≤ span.end
  pub end : span.end ≤ length bytes
  pub same : span_in bytes span ≡ piece

pub record IsKeyPut (bytes : List ℕ) (key : KeyRef) (place : PlacedKey) : Type 0 where
  pub placed : IsKeyPlaced bytes place
  pub same : placed_key bytes place ≡ key_seen key

pub record IsPairPut (bytes : List ℕ) (pair : TextPair) (place : Place) : Type 0 where
  pub placed : IsPlaced bytes place
  pub same : placed_pair bytes place ≡ pair
