-- Pairs at places of a run stay when the run grows.
use Rattle.std.proofs.Common.{◌≡◌, ℕ, ◌≤◌, ◌<◌, ◌+◌, ◌-◌, List, Option, None, Some, option_map, slice_get, [], ◌∷◌, ◌++◌, get_or, length, take, drop, map}
use Rattle.std.proofs.Common.{arith, refl, ap, sym, ◌∙◌, subst, length-append, length-drop, append_assoc, fold}
use Rattle.std.proofs.lemmas.List.{length-map, map-append, take-append-drop, take-append-le, drop-append-le, take_all, take_more}
use Rattle.std.proofs.lemmas.List.Sums.{fold-append}
use Rattle.std.proofs.lemmas.Option.{get_or_from_slice_get, none-some, same_Some, slice_get_within}
use Rattle.std.proofs.lemmas.List.Elements.{All-head, All-push, All-tail}
use Rattle.std.proofs.Math.Seq.{drop-append_seam}
use native.Mathlib.Numerals.{unary_clauses}
use Rattle.bdb_places.specs.Places.{span_in, value_at}
use Rattle.bdb_places.specs.declared.span.Span.{Span}
use Rattle.bdb_places.specs.declared.place.Place.{Place}
use Rattle.bdb_places.specs.declared.place.PlacedKey.{PlacedKey}
use Rattle.bdb_places.specs.declared.place.PlacedKey.TheVariants.{Bytes as BytesAt, Number as NumberAt}
use Rattle.bdb_text_format.specs.declared.pairs.Key.{Key}
use Rattle.bdb_text_format.specs.declared.pairs.Key.TheVariants.{Bytes, Number}
use Rattle.bdb_text_format.specs.declared.pairs.TextPair.{TextPair}
use Rattle.bdb_text_format.specs.Terms.{ArePlaced, IsKeyPlaced, IsPairPut, IsPiecePut, IsPlaced, Keeps, last_key, pair_with, placed_key, placed_pair}
use Rattle.bdb_text_format.specs.Terms.{placed_pairs}

-- what is behind an old run
behind : (old new : List ℕ) → Keeps old new → new ≡ old ++ drop (length old) new
behind old new kept = sym (take-append-drop (length old) new) ∙ ap (λ front. front ++ drop (length old) new) kept

pub long : (old new : List ℕ) → Keeps old new → length old ≤ length new
long old new kept = omega (arith, ap length (behind old new kept), length-append old (drop (length old) new))

-- a run keeps what it had where more is added
pub kept_more : (old more : List ℕ) → Keeps old (old ++ more)
kept_more old more = take-append-le (length old) old more (omega arith) ∙ take_all (length old) old (omega arith)

pub kept_all : (bytes : List ℕ) → Keeps bytes bytes
kept_all bytes = take_all (length bytes) bytes (omega arith)

pub kept_on : (old mid new : List ℕ) → Keeps old mid → Keeps mid new → Keeps old new
kept_on old mid new first second =
    ap (take (length old)) (behind mid new second)
    ∙ (take-append-le (length old) mid (drop (length mid) new) (long old mid first) ∙ first)

-- bytes that a run has
pub span_stays : (old new : List ℕ) (span : Span) → Keeps old new → span.start ≤ span.end → span.end ≤ length old → span_in new span ≡ span_in old span
span_stays old new span kept begin end =
    ap (λ bytes. span_in bytes span) (behind old new kept)
    ∙ (ap (take (span.end - span.start)) (drop-append-le span.start old (drop (length old) new) (omega (arith, begin, end)))
    ∙ take-append-le (span.end - span.start) (drop span.start old) (drop (length old) new) (omega (arith, begin, end, length-drop span.start old)))

pub key_stays : (old new : List ℕ) (key : PlacedKey) → Keeps old new → IsKeyPlaced old key → placed_key new key ≡ placed_key old key
key_stays old new (BytesAt span) kept placed = ap (λ bytes. Bytes bytes) (span_stays old new span kept placed.0 placed.1)
key_stays old new (NumberAt number) kept placed = refl

pub key_within : (old new : List ℕ) (key : PlacedKey) → Keeps old new → IsKeyPlaced old key → IsKeyPlaced new key
key_within old new (BytesAt span) kept placed = (placed.0, omega (arith, placed.1, long old new kept))
key_within old new (NumberAt number) kept placed = tt

-- a pair
pub pair_stays : (old new : List ℕ) (place : Place) → Keeps old new → IsPlaced old place → placed_pair new place ≡ placed_pair old place
pair_stays old new place kept placed =
    rw (key_stays old new place.key kept placed.key, span_stays old new place.value kept placed.begin placed.end) refl

pub pair_within : (old new : List ℕ) (place : Place) → Keeps old new → IsPlaced old place → IsPlaced new place
pair_within old new place kept placed =
    record { key = key_within old new place.key kept placed.key; begin = placed.begin; end = omega (arith, placed.end, long old new kept) }

-- all pairs
pub pairs_stay : (old new : List ℕ) (places : List Place) → Keeps old new → ArePlaced old places → placed_pairs new places ≡ placed_pairs old places
pairs_stay old new [] kept placed = refl
pairs_stay old new (place ∷ places) kept placed =
    grind (arith, pair_stays, All-head, All-tail, pairs_stay old new places kept (All-tail (IsPlaced old) place places placed))

pub pairs_within : (old new : List ℕ) (places : List Place) → Keeps old new → ArePlaced old places → ArePlaced new places
pairs_within old new places kept placed = λ k place low. pair_within old new _ kept (placed k place low)

-- all pairs, and one more
pub pairs_pushed : (old new : List ℕ) (places : List Place) (pair : TextPair) (place : Place) → Keeps old new → ArePlaced old places → IsPairPut new pair place
    → placed_pairs new (places ++ place ∷ []) ≡ placed_pairs old places ++ pair ∷ []
pairs_pushed old new places pair place kept placed put =
    map-append (placed_pair new) places (place ∷ []) ∙ rw (pairs_stay old new places kept placed, put.same) refl

pub places_pushed : (old new : List ℕ) (places : List Place) (pair : TextPair) (place : Place) → Keeps old new → ArePlaced old places → IsPairPut new pair place
    → ArePlaced new (places ++ place ∷ [])
places_pushed old new places pair place kept placed put = All-push (IsPlaced new) places place (pairs_within old new places kept placed) put.placed

-- what was put
pub piece_put : (old piece : List ℕ) (span : Span) → span.start ≡ length old → span.end ≡ length old + length piece → IsPiecePut (old ++ piece) piece span
piece_put old piece span start end = grind (arith, length-append, drop-append_seam, take_all)

pub pair_put : (mid new piece : List ℕ) (key : PlacedKey) (value : Span) (line : ℕ) → Keeps mid new → IsKeyPlaced mid key → IsPiecePut new piece value
    → IsPairPut new (pair_with (placed_key mid key) piece line) (record { key = key; value = value; line = line })
pair_put mid new piece key value line kept placed put = grind (arith, key_within, key_stays)

-- the last pair
last_of : (bytes : List ℕ) (key : Key) (place d : Place) (places : List Place)
    → fold (λ key (pair : TextPair). pair.key) key (placed_pairs bytes (place ∷ places)) ≡ placed_key bytes (get_or (place ∷ places) (length places) d).key
last_of bytes key place d [] = refl
last_of bytes key place d (next ∷ places) = last_of bytes (placed_key bytes place.key) next d places

pub last_is : (bytes : List ℕ) (places : List Place) (d : Place) → 0 < length places
    → last_key (placed_pairs bytes places) ≡ placed_key bytes (get_or places (length places - 1) d).key
last_is bytes [] d some = absurd (omega (arith, some))
last_is bytes (place ∷ places) d some = simp unary_clauses (last_of bytes (Number 0) place d places)

pub last_at : (bytes : List ℕ) (places : List Place) (last : Place) (pairs : List TextPair) → last ≡ get_or places (length places - 1) last
    → placed_pairs bytes places ≡ pairs → 0 < length pairs → placed_key bytes last.key ≡ last_key pairs
last_at bytes places last pairs at is some = grind (arith, last_is, length-map)

-- one more of a list
pub taken_more : (pairs : List TextPair) (i : ℕ) (pair : TextPair) → slice_get pairs i ≡ Some pair → take (i + 1) pairs ≡ take i pairs ++ pair ∷ []
taken_more pairs i pair at = take_more pairs i pair (slice_get_within pairs i pair at)
    ∙ ap (λ item. take i pairs ++ item ∷ []) (get_or_from_slice_get pairs i pair pair at)

pub joined_more : (before now : List TextPair) (pairs : List TextPair) (i : ℕ) (pair : TextPair) → now ≡ before ++ take i pairs → slice_get pairs i ≡ Some pair
    → now ++ pair ∷ [] ≡ before ++ take (i + 1) pairs
joined_more before now pairs i pair is at =
    ap (λ front. front ++ pair ∷ []) is ∙ (append_assoc before (take i pairs) (pair ∷ []) ∙ ap (λ more. before ++ more) (sym (taken_more pairs i pair at)))

-- the last of pairs that were added
last_added : (before : List TextPair) (more : List TextPair) (pair : TextPair) → last_key (before ++ (more ++ pair ∷ [])) ≡ pair.key
last_added before more pair =
    ap last_key (sym (append_assoc before more (pair ∷ []))) ∙ fold-append (λ key (pair : TextPair). pair.key) (Number 0) (before ++ more) (pair ∷ [])

-- it has the key of the next one, where the two share it
pub last_shared : (before now pairs : List TextPair) (i : ℕ) (this : TextPair) → now ≡ before ++ take i pairs → 0 < i → slice_get pairs i ≡ Some this
    → option_map (λ (pair : TextPair). pair.key) (slice_get pairs (i - 1)) ≡ option_map (λ (pair : TextPair). pair.key) (slice_get pairs i)
    → last_key now ≡ this.key
last_shared before now pairs i this is some at same = by_last (slice_get pairs (i - 1)) refl
  where
    by_last : (last : Option TextPair) → slice_get pairs (i - 1) ≡ last → last_key now ≡ this.key
    by_last None none = absurd (none-some (this.key) (sym (ap (option_map (λ (pair : TextPair). pair.key)) none)
        ∙ (same ∙ ap (option_map (λ (pair : TextPair). pair.key)) at)))
    by_last (Some last) last_at =
        let more : take i pairs ≡ take (i - 1) pairs ++ last ∷ [] =
        subst (λ n. take n pairs ≡ take (i - 1) pairs ++ last ∷ []) (omega (arith, some)) (taken_more pairs (i - 1) last last_at) in
        let all : now ≡ before ++ (take (i - 1) pairs ++ last ∷ []) = is ∙ ap (λ ps. before ++ ps) more in
        let key : Some last.key ≡ Some this.key =
        sym (ap (option_map (λ (pair : TextPair). pair.key)) last_at) ∙ (same ∙ ap (option_map (λ (pair : TextPair). pair.key)) at) in
        ap last_key all ∙ (last_added before (take (i - 1) pairs) last ∙ same_Some last.key this.key key)

-- data of pairs
pub values_of_pairs : (bytes : List ℕ) (places : List Place) → map (value_at bytes) places ≡ map (λ (pair : TextPair). pair.value) (placed_pairs bytes places)
values_of_pairs bytes [] = refl
values_of_pairs bytes (place ∷ places) = ap (λ values. value_at bytes place ∷ values) (values_of_pairs bytes places)

-- where pairs are placed
pub ruleset pairs_placed = (pairs_stay, pairs_within, pairs_pushed, places_pushed)
