-- Pairs in the making, as more of them come.
use Rattle.std.proofs.Common.{◌≡◌, ℕ, ◌+◌, ◌*◌, ◌^◌, ◌<◌, ◌≤◌, Bool, true, false, cond, not, List, [], ◌∷◌, ◌++◌, Some, arith, ap, append-nil, append_assoc, drop, false, inl, inr}
use Rattle.std.proofs.Common.{length, length-append, length-drop, map, refl, subst, sym, take, ◌∙◌, nat_cmp}
use Rattle.std.specs.BTreeMap.{BTreeMap, Updates, get, is_at}
use Rattle.std.specs.List.{enumerate_from, filter, flat_map}
use Rattle.std.specs.Map.{lookup}
use Rattle.std.proofs.lemmas.Bool.{cases_eq}
use Rattle.std.proofs.lemmas.List.{drop-append-le, length-map, map-append, take-append-le, take_all}
use Rattle.std.proofs.Math.Seq.{drop-append_seam}
use Rattle.std.proofs.lemmas.Option.{same_Some}
use Rattle.bdb_text_format.specs.of_format.Terms.{File, value_of}
use Rattle.bdb_text_format.specs.of_places.declared.place.PlacedKey.{PlacedKey}
use Rattle.bdb_text_format.specs.of_places.declared.place.PlacedKey.TheVariants.{Bytes as BytesAt}
use Rattle.bdb_text_format.specs.declared.pairs.Key.{Key}
use Rattle.bdb_text_format.specs.declared.pairs.Key.TheVariants.{Bytes, Number}
use Rattle.bdb_text_format.specs.declared.pairs.TextPair.{TextPair}
use Rattle.bdb_text_format.specs.of_places.Places.{span_in}
use Rattle.bdb_text_format.specs.of_places.declared.span.Span.{Span}
use Rattle.bdb_text_format.specs.Terms.{Extends, Gathering, IsKeyPlaced, IsPiecePut, key_again, pair_with, placed_key}
use Rattle.bdb_text_format.proofs.GatheredLemmas.{chains_same}
use Rattle.bdb_text_format.proofs.PlacedLemmas.{key_stays, key_within}
use Rattle.bdb_survey.specs.Salvage.{loose}
use Rattle.bdb_rescue.proofs.LooseCountLemmas.{loose_few}
use Rattle.bdb_rescue.proofs.LooseLemmas.{loose_is}
use Rattle.bdb_rescue.specs.Kept.{Reading, data_at, file_in, given, given_live, item_of, loose_values, numbered_at, under, value_at}
use Rattle.bdb_rescue.specs.declared.kept.KeptPair.{KeptPair}
use Rattle.bdb_rescue.specs.declared.kept.KeptValue.{KeptValue}
use Rattle.bdb_rescue.specs.Gathered.{Adds, Grows, HasSets, InHand, IsInHand, StandFrom, chain_value, is_record_of, loose_pair, set_data, stored_pair, with_key}
use Rattle.bdb_text_format.proofs.of_format.BoolLemmas.{true_from_not}
use Rattle.bdb_text_format.proofs.of_format.LessLemmas.{other_number}

-- The same pairs with a run that grew, and then more of them.

pub adds_none : (it : InHand) (key : PlacedKey) → IsKeyPlaced it.gathered.bytes key → Adds it it key []
adds_none it key placed = record { reading = refl; placed = placed; same = refl; pairs = sym (append-nil it.gathered.pairs) }

pub adds_grown : (old mid new : InHand) (key : PlacedKey) (values : List (List ℕ)) → Grows old mid → IsKeyPlaced old.gathered.bytes key
    → Adds mid new key values → Adds old new key values
adds_grown old mid new key values grows placed adds =
    let same : placed_key mid.gathered.bytes key ≡ placed_key old.gathered.bytes key =
    key_stays old.gathered.bytes mid.gathered.bytes key grows.bytes placed in
    record {
      reading = adds.reading ∙ grows.reading;
      placed = adds.placed;
      same = adds.same ∙ same;
      pairs = adds.pairs ∙ (ap (λ pairs. pairs ++ with_key (placed_key mid.gathered.bytes key) values) grows.pairs
          ∙ ap (λ k. old.gathered.pairs ++ with_key k values) same);
    }

pub adds_put : (old mid new : InHand) (key : PlacedKey) (piece : List ℕ) (span : Span) → Grows old mid → IsKeyPlaced old.gathered.bytes key
    → IsPiecePut mid.gathered.bytes piece span → Adds mid new key (span_in mid.gathered.bytes span ∷ []) → Adds old new key (piece ∷ [])
adds_put old mid new key piece span grows placed put adds =
    adds_grown old mid new key (piece ∷ []) grows placed (subst (λ bytes. Adds mid new key (bytes ∷ [])) put.same adds)

pub adds_on : (old mid new : InHand) (key : PlacedKey) (some more all : List (List ℕ)) → Adds old mid key some → Adds mid new key more → all ≡ some ++ more
    → Adds old new key all
adds_on old mid new key some more all first second are =
    let k : Key = placed_key old.gathered.bytes key in
    record {
      reading = second.reading ∙ first.reading;
      placed = second.placed;
      same = second.same ∙ first.same;
      pairs = second.pairs
          ∙ (ap (λ pairs. pairs ++ with_key (placed_key mid.gathered.bytes key) more) first.pairs
          ∙ (ap (λ one. (old.gathered.pairs ++ with_key k some) ++ with_key one more) first.same
          ∙ (append_assoc old.gathered.pairs (with_key k some) (with_key k more)
          ∙ ap (λ pairs. old.gathered.pairs ++ pairs)
          (sym (map-append (λ value. pair_with k value 0) some more) ∙ ap (with_key k) (sym are)))));
    }

pub grown_key : (old new : InHand) (key : PlacedKey) → Grows old new → IsKeyPlaced old.gathered.bytes key → IsKeyPlaced new.gathered.bytes key
grown_key old new key grows placed = key_within old.gathered.bytes new.gathered.bytes key grows.bytes placed

-- Data of sets.

stand_on : (pairs more : List TextPair) (values : List (List ℕ)) (from : ℕ) → StandFrom pairs values from → StandFrom (pairs ++ more) values from
stand_on pairs more values from stand = record {
  there = omega (arith, stand.there, length-append pairs more);
  are =
      ap (λ part. map (λ (pair : TextPair). pair.value) (take (length values) part)) (drop-append-le from pairs more (omega (arith, stand.there)))
      ∙ (ap (map (λ (pair : TextPair). pair.value))
      (take-append-le (length values) (drop from pairs) more (omega (arith, stand.there, length-drop from pairs)))
      ∙ stand.are);
}

pub sets_stay : (file : File) (old new : List TextPair) (sets : BTreeMap ℕ ℕ) → new ≡ old → HasSets file old sets → HasSets file new sets
sets_stay file old new sets same has = subst (λ pairs. HasSets file pairs sets) (sym same) has

pub sets_on : (file : File) (old new more : List TextPair) (sets : BTreeMap ℕ ℕ) → new ≡ old ++ more → HasSets file old sets → HasSets file new sets
sets_on file old new more sets are has =
    subst (λ pairs. HasSets file pairs sets) (sym are)
    (record { each = λ leaf from at. stand_on old more (set_data file leaf) from (has.each leaf from at) })

-- and of one more
sets_more : (file : File) (pairs : List TextPair) (before after : BTreeMap ℕ ℕ) (leaf from : ℕ) → HasSets file pairs before
    → StandFrom pairs (set_data file leaf) from → Updates nat_cmp before after leaf (Some from) → HasSets file pairs after
sets_more file pairs before after leaf from has stand updates = record {
  each = λ other place at.
      elim (cases_eq leaf other) [
        | inl same ↦
            let here : Some from ≡ Some place = sym updates.1 ∙ (ap (λ n. get nat_cmp after n) same ∙ at) in
            subst (λ n. StandFrom pairs (set_data file n) place) same
            (subst (StandFrom pairs (set_data file leaf)) (same_Some from place here) stand)
        | inr differ ↦ has.each other place (sym (updates.2 other (other_number leaf other differ)) ∙ at)
      ];
}

values_back : (key : Key) (values : List (List ℕ)) → map (λ (pair : TextPair). pair.value) (with_key key values) ≡ values
values_back key [] = refl
values_back key (value ∷ values) = ap (λ more. value ∷ more) (values_back key values)

-- data that were added stand behind the pairs that were there
new_stand : (pairs : List TextPair) (key : Key) (values : List (List ℕ)) (from : ℕ) → from ≡ length pairs → StandFrom (pairs ++ with_key key values) values from
new_stand pairs key values from is =
    let length_of : length (with_key key values) ≡ length values = length-map values (λ value. pair_with key value 0) in
    record {
      there = omega (arith, is, length_of, length-append pairs (with_key key values));
      are =
          ap (λ part. map (λ (pair : TextPair). pair.value) (take (length values) part))
          (ap (λ m. drop m (pairs ++ with_key key values)) is ∙ drop-append_seam pairs (with_key key values))
          ∙ (ap (map (λ (pair : TextPair). pair.value)) (take_all (length values) (with_key key values) (omega (arith, length_of)))
          ∙ values_back key values);
    }

-- a set whose data were added is noted
pub set_noted : (old new : InHand) (reading : Reading) (gathered : Gathering) (before after : BTreeMap ℕ ℕ) (key : PlacedKey) (leaf from : ℕ)
    → record { reading = reading; gathered = gathered } ≡ new → Adds old new key (set_data (file_in old.reading) leaf)
    → from ≡ length old.gathered.pairs → Updates nat_cmp before after leaf (Some from) → IsInHand (file_in reading) gathered before
    → IsInHand (file_in reading) gathered after
set_noted old new reading gathered before after key leaf from is adds at_end updates in_hand =
    let file_is : file_in old.reading ≡ file_in reading = ap file_in (sym (ap (λ (it : InHand). it.reading) is ∙ adds.reading)) in
    let pairs_are : gathered.pairs ≡ old.gathered.pairs ++ with_key (placed_key old.gathered.bytes key) (set_data (file_in old.reading) leaf) =
    ap (λ (it : InHand). it.gathered.pairs) is ∙ adds.pairs in
    let stand : StandFrom gathered.pairs (set_data (file_in reading) leaf) from =
    subst (λ f. StandFrom gathered.pairs (set_data f leaf) from) file_is
    (subst (λ pairs. StandFrom pairs (set_data (file_in old.reading) leaf) from) (sym pairs_are)
    (new_stand old.gathered.pairs (placed_key old.gathered.bytes key) (set_data (file_in old.reading) leaf) from at_end)) in
    record { chains = in_hand.chains; sets = sets_more (file_in reading) gathered.pairs before after leaf from in_hand.sets stand updates }

-- nothing is noted where there's no memory for it
pub none_noted : (file : File) (gathered : Gathering) (before after : BTreeMap ℕ ℕ) → after.entries ≡ before.entries → IsInHand file gathered before
    → IsInHand file gathered after
none_noted file gathered before after same in_hand = record {
  chains = in_hand.chains;
  sets = record {
    each = λ leaf from at. in_hand.sets.each leaf from (ap (λ entries. lookup (is_at (nat_cmp leaf)) entries) (sym same) ∙ at);
  };
}

-- What is noted stands where more pairs come.
pub extends_in_hand : (file : File) (old new : Gathering) (sets : BTreeMap ℕ ℕ) → Extends old new → IsInHand file old sets → IsInHand file new sets
extends_in_hand file old new sets extends is = record {
  chains = chains_same (chain_value file) old new extends.bytes extends.chains is.chains;
  sets = sets_on file old.pairs new.pairs extends.more sets extends.pairs is.sets;
}

-- data that stand there, once more with another key
pub again_of : (pairs : List TextPair) (key : Key) → key_again key pairs ≡ with_key key (map (λ (pair : TextPair). pair.value) pairs)
again_of [] key = refl
again_of (pair ∷ pairs) key = ap (λ more. pair_with key pair.value 0 ∷ more) (again_of pairs key)

-- what pairs in the making are
pub ruleset in_hand = (sets_stay, adds_put, grown_key, again_of, extends_in_hand)

-- Data that come one by one.
pub record AddsSoFar (old new : InHand) (key : PlacedKey) (all left : List (List ℕ)) : Type 0 where
  pub passed : List (List ℕ)
  pub are : all ≡ passed ++ left
  pub adds : Adds old new key passed

pub so_far_none : (it : InHand) (key : PlacedKey) (all : List (List ℕ)) → IsKeyPlaced it.gathered.bytes key → AddsSoFar it it key all all
so_far_none it key all placed = record { passed = []; are = refl; adds = adds_none it key placed }

pub so_far_more : (old mid new : InHand) (key : PlacedKey) (all left rest : List (List ℕ)) (value : List ℕ) → AddsSoFar old mid key all left
    → left ≡ value ∷ rest → Adds mid new key (value ∷ []) → AddsSoFar old new key all rest
so_far_more old mid new key all left rest value so_far are adds = record {
  passed = so_far.passed ++ value ∷ [];
  are = so_far.are ∙ (ap (λ more. so_far.passed ++ more) are ∙ sym (append_assoc so_far.passed (value ∷ []) rest));
  adds = adds_on old mid new key so_far.passed (value ∷ []) (so_far.passed ++ value ∷ []) so_far.adds adds refl;
}

pub so_far_all : (old new : InHand) (key : PlacedKey) (all left : List (List ℕ)) → AddsSoFar old new key all left → left ≡ [] → Adds old new key all
so_far_all old new key all left so_far none =
    subst (Adds old new key) (sym (so_far.are ∙ (ap (λ more. so_far.passed ++ more) none ∙ append-nil so_far.passed))) so_far.adds

-- the value at one more place, in the file that is at hand
pub so_far_value : (old mid new : InHand) (key : PlacedKey) (all : List (List ℕ)) (left rest : List KeptValue) (place : KeptValue)
    → AddsSoFar old mid key all (map (value_at (file_in old.reading)) left) → left ≡ place ∷ rest
    → Adds mid new key (value_at (file_in mid.reading) place ∷ []) → AddsSoFar old new key all (map (value_at (file_in old.reading)) rest)
so_far_value old mid new key all left rest place so_far are adds =
    so_far_more old mid new key all (map (value_at (file_in old.reading)) left) (map (value_at (file_in old.reading)) rest)
    (value_at (file_in old.reading) place) so_far (ap (map (value_at (file_in old.reading))) are)
    (subst (λ (reading : Reading). Adds mid new key (value_at (file_in reading) place ∷ [])) so_far.adds.reading adds)

-- what is added so far
pub ruleset so_far_adds = (so_far_none, so_far_more, so_far_all)

-- What a kept pair gives.

given_keyed : (key : List ℕ) (values : List (List ℕ)) → with_key (Bytes key) values ≡ map stored_pair (under key values)
given_keyed key [] = refl
given_keyed key (value ∷ values) = ap (λ more. pair_with (Bytes key) value 0 ∷ more) (given_keyed key values)

pub pair_given : (old mid new : InHand) (pair : KeptPair) (span : Span) → not pair.live ≡ false → Grows old mid
    → IsPiecePut mid.gathered.bytes (value_of (file_in old.reading) (item_of (file_in old.reading) pair.page (2 * pair.index)).content) span
    → Adds mid new (BytesAt span)
    (data_at (file_in mid.reading) (item_of (file_in mid.reading) pair.page (2 * pair.index + 1)).content pair.place)
    → new.gathered.pairs ≡ old.gathered.pairs ++ map stored_pair (given_live (file_in old.reading) pair)
unfolding given
pair_given old mid new pair span live grows put adds =
    let file : File = file_in old.reading in
    let key : List ℕ = value_of file (item_of file pair.page (2 * pair.index)).content in
    let values : Reading → List (List ℕ) = λ reading.
    data_at (file_in reading) (item_of (file_in reading) pair.page (2 * pair.index + 1)).content pair.place in
    adds.pairs
    ∙ (ap (λ pairs. pairs ++ with_key (Bytes (span_in mid.gathered.bytes span)) (values mid.reading)) grows.pairs
    ∙ ap (λ more. old.gathered.pairs ++ more)
    (ap (λ bytes. with_key (Bytes bytes) (values mid.reading)) put.same
    ∙ (ap (λ (reading : Reading). with_key (Bytes key) (values reading)) grows.reading
    ∙ (given_keyed key (values old.reading) ∙ ap (λ b. map stored_pair (cond b (under key (values old.reading)) [])) (sym (true_from_not pair.live live))))))

-- what one more gives
pub more_given : (file : File) (now new all : List TextPair) (left rest : List KeptPair) (pair : KeptPair) → left ≡ pair ∷ rest
    → now ++ map stored_pair (flat_map (given_live file) left) ≡ all → new ≡ now ++ map stored_pair (given_live file pair)
    → new ++ map stored_pair (flat_map (given_live file) rest) ≡ all
more_given file now new all left rest pair are so_far pushed =
    ap (λ pairs. pairs ++ map stored_pair (flat_map (given_live file) rest)) pushed
    ∙ (append_assoc now (map stored_pair (given_live file pair)) (map stored_pair (flat_map (given_live file) rest))
    ∙ (ap (λ pairs. now ++ pairs) (sym (map-append stored_pair (given_live file pair) (flat_map (given_live file) rest)))
    ∙ (ap (λ pairs. now ++ map stored_pair (flat_map (given_live file) pairs)) (sym are) ∙ so_far)))

-- A loose record more.
pub more_loose : (file : File) (now new all : List TextPair) (number : ℕ) (left rest : List KeptValue) (place : KeptValue) → left ≡ place ∷ rest
    → now ++ map loose_pair (enumerate_from (number + 1) (map (value_at file) left)) ≡ all
    → new ≡ now ++ with_key (Number (number + 1)) (value_at file place ∷ [])
    → new ++ map loose_pair (enumerate_from (number + 1 + 1) (map (value_at file) rest)) ≡ all
more_loose file now new all number left rest place are so_far pushed =
    let others : List TextPair = map loose_pair (enumerate_from (number + 1 + 1) (map (value_at file) rest)) in
    ap (λ pairs. pairs ++ others) pushed
    ∙ (append_assoc now (with_key (Number (number + 1)) (value_at file place ∷ [])) others
    ∙ (ap (λ places. now ++ map loose_pair (enumerate_from (number + 1) (map (value_at file) places))) (sym are) ∙ so_far))

-- Records of a page.

one_more : {X : Type 0} (test : X → Bool) (x : X) (xs : List X) → filter test (x ∷ []) ++ filter test xs ≡ filter test (x ∷ xs)
one_more {X} test x xs = by_test (test x)
  where
    by_test : (b : Bool) → cond b (x ∷ []) [] ++ filter test xs ≡ cond b (x ∷ filter test xs) (filter test xs)
    by_test true = refl
    by_test false = refl

pub more_records : (file : File) (start len : ℕ) (now new all : List TextPair) (left rest : List KeptValue) (place : KeptValue) → left ≡ place ∷ rest
    → now ++ map loose_pair (filter (is_record_of len) (map (numbered_at file start) left)) ≡ all
    → new ≡ now ++ map loose_pair (filter (is_record_of len) (numbered_at file start place ∷ []))
    → new ++ map loose_pair (filter (is_record_of len) (map (numbered_at file start) rest)) ≡ all
more_records file start len now new all left rest place are so_far pushed =
    let some : List (ℕ × List ℕ) = filter (is_record_of len) (numbered_at file start place ∷ []) in
    let more : List (ℕ × List ℕ) = filter (is_record_of len) (map (numbered_at file start) rest) in
    ap (λ pairs. pairs ++ map loose_pair more) pushed
    ∙ (append_assoc now (map loose_pair some) (map loose_pair more)
    ∙ (ap (λ pairs. now ++ pairs) (sym (map-append loose_pair some more)
    ∙ ap (map loose_pair) (one_more (is_record_of len) (numbered_at file start place) (map (numbered_at file start) rest)))
    ∙ (ap (λ places. now ++ map loose_pair (filter (is_record_of len) (map (numbered_at file start) places))) (sym are) ∙ so_far)))

-- Records have numbers of four bytes.
pub number_fits : (reading : Reading) (number : ℕ) (left rest : List KeptValue) (place : KeptValue) → left ≡ place ∷ rest
    → number + length left ≡ length (loose_values (file_in reading)) → length reading.image ≤ 2 ^ 30 → number + 1 < 2 ^ 32
number_fits reading number left rest place are numbered small =
    let file : File = file_in reading in
    let few : 2 * length (loose file) ≤ length reading.image = loose_few reading.guess.order reading.guess.page_size reading.image in
    let same : length (loose_values file) ≡ length (loose file) =
    sym (length-map (loose_values file) (value_at file)) ∙ ap length (loose_is file (loose_values file) refl) in
    omega (arith, few, same, small, numbered, ap length are)

-- nothing is left
pub all_given : (now more all : List TextPair) → more ≡ [] → now ++ more ≡ all → now ≡ all
all_given now more all none so_far = sym (ap (λ pairs. now ++ pairs) none ∙ append-nil now) ∙ so_far
