-- Lists and their units: the run of a key, the record that comes next, and the list that units give back.
use Rattle.std.proofs.Common.{Bool, ◌≡◌, ℕ, suc, zero, ◌+◌, ◌-◌, ◌<◌, ◌≤◌, ◌^◌, true, false, cond, get_or, slice_get, None, Option, Some, option_map, List, []}
use Rattle.std.proofs.Common.{◌∷◌, ◌++◌, length, map, take, drop, replicate, arith, refl, sym, ◌∙◌, ap, inl, inr, true≢false}
use Rattle.bdb_mktree.proofs.Common.{All, enumerate_from, flat_map, prefix_len, bytes_eq, cases_Bool, drop-drop, drop-map, drop_all, drop_more, get_or-map, length-drop, length-map, length-take-le}
use Rattle.bdb_mktree.proofs.Common.{take-map, All-drop, All-head, All-tail, Kind, BytesKey, NumberKey, eq_same, eq_self, AscendFrom, keys_of, listed, listed_key, number_of, unlined, unlined_pairs}
use Rattle.bdb_mktree.proofs.Common.{values_of, Pair, TextPair, EntryUnit, KeyedUnit, TreeUnit, list_of_units, listed_keyed, listed_record, AreKeysOf, HasBytes, IsRecordAt, IsRunAt, bytes_in, has_key}
use Rattle.bdb_mktree.proofs.Common.{has_key_at, keyed_units, missing, record_units, units_in, onto_units, IsTreeKind}
use Rattle.std.proofs.lemmas.Option.{get_or_from_slice_get, none-some, same_Some, slice_get_within}
use Rattle.std.proofs.lemmas.List.Sums.{prefix_len-le-length}
use Rattle.bdb_text_format.specs.declared.pairs.Key.{Key}
use Rattle.bdb_text_format.specs.declared.pairs.Key.TheVariants.{Bytes, Number}

-- Keys.

-- units of which the first has a key
record Heads (key : List ℕ) (units : List TreeUnit) : Type 0 where
  values : List (List ℕ)
  others : List TreeUnit
  is : units ≡ KeyedUnit key values ∷ others

heads_other : (key value other : List ℕ) (values : List (List ℕ)) (units : List TreeUnit) → (b : Bool) → bytes_eq key other ≡ b
    → Heads key (cond b (KeyedUnit other (value ∷ values) ∷ units) (KeyedUnit key (value ∷ []) ∷ KeyedUnit other values ∷ units))
heads_other key value other values units true same =
    record { values = value ∷ values; others = units; is = ap (λ k. KeyedUnit k (value ∷ values) ∷ units) (sym (eq_same key other same)) }
heads_other key value other values units false same = record { values = value ∷ []; others = KeyedUnit other values ∷ units; is = refl }

heads : (key value : List ℕ) (units : List TreeUnit) → Heads key (onto_units key value units)
heads key value [] = record { values = value ∷ []; others = []; is = refl }
heads key value (KeyedUnit other values ∷ units) = heads_other key value other values units (bytes_eq key other) refl
heads key value (EntryUnit other deleted ∷ units) = record { values = value ∷ []; others = EntryUnit other deleted ∷ units; is = refl }

-- a pair before units of which the first has another key, and before one with its own
before_other : (key value other : List ℕ) (units : List TreeUnit) → Heads other units → bytes_eq other key ≡ false
    → onto_units key value units ≡ KeyedUnit key (value ∷ []) ∷ units
before_other key value other units first none =
    let test : bytes_eq key other ≡ false =
    elim (cases_Bool (bytes_eq key other)) [
      | inl same ↦ absurd (true≢false (sym (ap (λ k. bytes_eq k key) (sym (eq_same key other same)) ∙ eq_self key) ∙ none))
      | inr other_key ↦ other_key
    ] in
    ap (onto_units key value) first.is
    ∙ (cc (test, first.is))

before_same : (key value : List ℕ) (values : List (List ℕ)) (units : List TreeUnit)
    → onto_units key value (KeyedUnit key values ∷ units) ≡ KeyedUnit key (value ∷ values) ∷ units
before_same key value values units =
    ap (λ b. cond b (KeyedUnit key (value ∷ values) ∷ units) (KeyedUnit key (value ∷ []) ∷ KeyedUnit key values ∷ units)) (eq_self key)

key_test : (key : List ℕ) (other : Key) → HasBytes other → has_key key other ≡ bytes_eq (bytes_in other) key
key_test key (Bytes other) has = refl
key_test key (Number number) has = absurd has

-- a run of no pairs: the first of them, if there is one, has another key
no_run : (key value : List ℕ) (pairs : List Pair) → All (λ (pair : Pair). HasBytes pair.key) pairs → prefix_len (has_key key) (keys_of pairs) ≡ 0
    → onto_units key value (keyed_units pairs) ≡ KeyedUnit key (value ∷ []) ∷ keyed_units pairs
no_run key value [] all none = refl
no_run key value (pair ∷ pairs) all none =
    before_other key value (bytes_in pair.key) (keyed_units (pair ∷ pairs)) (heads (bytes_in pair.key) pair.value (keyed_units pairs))
    (sym (key_test key pair.key (All-head (λ (pair : Pair). HasBytes pair.key) pair pairs all))
    ∙ elim (cases_Bool (has_key key pair.key)) [
      | inl same ↦ let long = ap (λ b. cond b (1 + prefix_len (has_key key) (keys_of pairs)) 0) same in absurd (omega (arith, long, none))
      | inr other ↦ other
    ])

-- the run of a key, one pair at least, is one unit
pub run_is_unit : (key : List ℕ) (pairs : List Pair) (n : ℕ) → All (λ (pair : Pair). HasBytes pair.key) pairs
    → prefix_len (has_key key) (keys_of pairs) ≡ n → 0 < n
    → keyed_units pairs ≡ KeyedUnit key (take n (values_of pairs)) ∷ keyed_units (drop n pairs)
run_is_unit key [] n all is some = absurd (omega (arith, is, some))
run_is_unit key (pair ∷ pairs) n all is some =
    let has : HasBytes pair.key = All-head (λ (pair : Pair). HasBytes pair.key) pair pairs all in
    elim (cases_Bool (has_key key pair.key)) [
      | inl same ↦
          let key_is : bytes_in pair.key ≡ key = eq_same (bytes_in pair.key) key (sym (key_test key pair.key has) ∙ same) in
          let counted = ap (λ b. cond b (1 + prefix_len (has_key key) (keys_of pairs)) 0) same in
          let long : n ≡ suc (prefix_len (has_key key) (keys_of pairs)) = omega (arith, is, counted) in
          ap (λ k. onto_units k pair.value (keyed_units pairs)) key_is
          ∙ (cc (
            by_rest (prefix_len (has_key key) (keys_of pairs)) refl (λ m more some_more. run_is_unit key pairs m (All-tail (λ (pair : Pair). HasBytes
                pair.key) pair pairs all) more some_more),
            long,
          ))
      | inr other ↦ let none = ap (λ b. cond b (1 + prefix_len (has_key key) (keys_of pairs)) 0) other in absurd (omega (arith, is, none, some))
    ]
  where
    by_rest : (m : ℕ) → prefix_len (has_key key) (keys_of pairs) ≡ m
        → ((m : ℕ) → prefix_len (has_key key) (keys_of pairs) ≡ m → 0 < m
        → keyed_units pairs ≡ KeyedUnit key (take m (values_of pairs)) ∷ keyed_units (drop m pairs))
        → onto_units key pair.value (keyed_units pairs)
        ≡ KeyedUnit key (take (suc m) (values_of (pair ∷ pairs))) ∷ keyed_units (drop (suc m) (pair ∷ pairs))
    by_rest zero none later = no_run key pair.value pairs (All-tail (λ (pair : Pair). HasBytes pair.key) pair pairs all) none
    by_rest (suc m) more later =
        ap (onto_units key pair.value) (later (suc m) more (omega arith))
        ∙ before_same key pair.value (take (suc m) (values_of pairs)) (keyed_units (drop (suc m) pairs))

-- Records.

-- the record that comes next is that of the first pair
pub record_stands : (next : ℕ) (pair : Pair) (pairs : List Pair) → next ≡ number_of pair.key
    → record_units next (pair ∷ pairs) ≡ EntryUnit pair.value false ∷ record_units (next + 1) pairs
record_stands next pair pairs same = grind arith

-- or a missing one
pub record_missing : (next : ℕ) (pair : Pair) (pairs : List Pair) → next < number_of pair.key
    → record_units next (pair ∷ pairs) ≡ missing ∷ record_units (next + 1) (pair ∷ pairs)
record_missing next pair pairs later = grind arith

-- Places in a list.

abbrev pub no_pair : Pair
no_pair = record { key = Number 0; value = [] }

-- the pairs of a list from a place on
pairs_from : (pairs : List TextPair) (i : ℕ) (pair : TextPair) → slice_get pairs i ≡ Some pair → drop i pairs ≡ pair ∷ drop (i + 1) pairs
pairs_from pairs i pair at =
    drop_more pairs i pair (slice_get_within pairs i pair at) ∙ ap (λ p. p ∷ drop (i + 1) pairs) (get_or_from_slice_get pairs i pair pair at)

pub pair_at : (pairs : List TextPair) (i : ℕ) (pair : TextPair) → slice_get pairs i ≡ Some pair → get_or (unlined_pairs pairs) i no_pair ≡ unlined pair
pair_at pairs i pair at = get_or-map unlined pairs i pair no_pair (slice_get_within pairs i pair at) ∙ ap unlined (get_or_from_slice_get pairs i pair pair at)

pub has_bytes_at : (pairs : List TextPair) (i : ℕ) (pair : TextPair) → All (λ (pair : Pair). HasBytes pair.key) (unlined_pairs pairs)
    → slice_get pairs i ≡ Some pair → HasBytes pair.key
has_bytes_at pairs i pair all at = grind (arith, pair_at, slice_get_within, length-map)

-- how many pairs of a key follow each other from a place on: one more than from the next place on, none, or none where none are left
abbrev pub run_from : List ℕ → List TextPair → ℕ → ℕ
run_from key pairs i = prefix_len (has_key key) (keys_of (unlined_pairs (drop i pairs)))

pub run_goes_on : (key : List ℕ) (pairs : List TextPair) (i : ℕ) (pair : TextPair) → slice_get pairs i ≡ Some pair → has_key key pair.key ≡ true
    → run_from key pairs i ≡ 1 + run_from key pairs (i + 1)
run_goes_on key pairs i pair at same = grind (arith, pairs_from)

pub run_ends : (key : List ℕ) (pairs : List TextPair) (i : ℕ) (pair : TextPair) → slice_get pairs i ≡ Some pair → has_key key pair.key ≡ false
    → run_from key pairs i ≡ 0
run_ends key pairs i pair at other = grind (arith, pairs_from)

-- the same, by whether a pair of the list has the key
pub goes_on_at : (key : List ℕ) (pairs : List TextPair) (i : ℕ) → has_key_at key pairs i ≡ Some true → run_from key pairs i ≡ 1 + run_from key pairs (i + 1)
goes_on_at key pairs i same = grind (arith, slice_get, Option, None, none-some, option_map, Some, run_goes_on, same_Some)

pub ends_at : (key : List ℕ) (pairs : List TextPair) (i : ℕ) → has_key_at key pairs i ≡ Some false → run_from key pairs i ≡ 0
ends_at key pairs i other = grind (arith, slice_get, Option, None, none-some, option_map, Some, run_ends, same_Some)

pub key_within : (key : List ℕ) (pairs : List TextPair) (i : ℕ) → has_key_at key pairs i ≡ Some true → i < length pairs
key_within key pairs i same = grind (arith, slice_get, Option, None, none-some, option_map, Some, slice_get_within)

pub first_has_key : (key : List ℕ) (pairs rest : List TextPair) (start : ℕ) (pair : TextPair) → slice_get pairs start ≡ Some pair → pair.key ≡ Bytes key
    → rest ≡ drop start pairs → has_key_at key rest 0 ≡ Some true
first_has_key key pairs rest start pair at is from =
    ap (λ ps. has_key_at key ps 0) (from ∙ pairs_from pairs start pair at) ∙ ap Some (ap (has_key key) is ∙ eq_self key)

pub run_over : (key : List ℕ) (pairs : List TextPair) (i : ℕ) → length pairs ≤ i → run_from key pairs i ≡ 0
run_over key pairs i over = ap (λ ps. prefix_len (has_key key) (keys_of (unlined_pairs ps))) (drop_all i pairs over)

pub run_long : (key : List ℕ) (pairs : List TextPair) (n : ℕ) → n ≡ run_from key pairs 0 → n ≤ length pairs
run_long key pairs n is = grind (arith, prefix_len-le-length, length-map)

-- the data of pairs
values_unlined : (pairs : List TextPair) → map (λ (pair : TextPair). pair.value) pairs ≡ values_of (unlined_pairs pairs)
values_unlined [] = refl
values_unlined (pair ∷ pairs) = ap (λ values. pair.value ∷ values) (values_unlined pairs)

-- the pairs from a place on that have the key there are a unit
pub is_run : (pairs : List TextPair) (start n : ℕ) (key : List ℕ) (pair : TextPair) → All (λ (pair : Pair). HasBytes pair.key) (unlined_pairs pairs)
    → slice_get pairs start ≡ Some pair → pair.key ≡ Bytes key → n ≡ run_from key pairs start
    → IsRunAt (unlined_pairs pairs) start (KeyedUnit key (map (λ (pair : TextPair). pair.value) (take n (drop start pairs)))) (start + n)
is_run pairs start n key pair all at is long =
    let from : drop start (unlined_pairs pairs) ≡ unlined_pairs (drop start pairs) = drop-map unlined start pairs in
    let inside : start < length pairs = slice_get_within pairs start pair at in
    let some : 0 < n = omega (arith, long, run_goes_on key pairs start pair at (ap (has_key key) is ∙ eq_self key)) in
    let most : n ≤ length (drop start pairs) = run_long key (drop start pairs) n long in
    let size : length (drop start pairs) ≡ length pairs - start = length-drop start pairs in
    let data_are : take n (values_of (drop start (unlined_pairs pairs))) ≡ map (λ (pair : TextPair). pair.value) (take n (drop start pairs)) =
    ap (λ ps. take n (values_of ps)) from
    ∙ (ap (take n) (sym (values_unlined (drop start pairs))) ∙ take-map (λ (pair : TextPair). pair.value) n (drop start pairs)) in
    record {
      ahead = omega (arith, some);
      within = omega (arith, most, size, inside, length-map pairs unlined);
      many =
          ap (λ k. start + k)
          (sym (length-map (take n (drop start pairs)) (λ (pair : TextPair). pair.value) ∙ length-take-le n (drop start pairs) most));
      units =
          run_is_unit key (drop start (unlined_pairs pairs)) n (All-drop (λ (pair : Pair). HasBytes pair.key) start (unlined_pairs pairs) all)
          (ap (λ ps. prefix_len (has_key key) (keys_of ps)) from ∙ sym long) some
          ∙ (ap (λ vs. KeyedUnit key vs ∷ keyed_units (drop n (drop start (unlined_pairs pairs)))) data_are
          ∙ ap (λ ps. KeyedUnit key (map (λ (pair : TextPair). pair.value) (take n (drop start pairs))) ∷ keyed_units ps)
          (drop-drop n start (unlined_pairs pairs)));
    }

-- the record of a number is missing before the pair at a place
pub is_missing : (pairs : List Pair) (place number there : ℕ) → AscendFrom number (drop place pairs) → place < length pairs
    → there ≡ number_of (get_or pairs place no_pair).key → number < there → there < 2 ^ 32 → IsRecordAt pairs place number missing place
is_missing pairs place number there ascend more is later fits = grind (arith, drop_more, record_missing)

-- or is that of the pair
pub is_there : (pairs : List Pair) (place number there : ℕ) → AscendFrom number (drop place pairs) → place < length pairs
    → there ≡ number_of (get_or pairs place no_pair).key → there ≤ number → there < 2 ^ 32
    → IsRecordAt pairs place number (EntryUnit (get_or pairs place no_pair).value false) (place + 1)
is_there pairs place number there ascend more is here fits = grind (arith, drop_more, record_stands)

-- The list that units give back.

with_listed : (key value : List ℕ) (units : List TreeUnit) → flat_map listed_keyed (onto_units key value units) ≡
    (BytesKey key, value) ∷ flat_map listed_keyed units
with_listed key value [] = refl
with_listed key value (KeyedUnit other values ∷ units) = by_test (bytes_eq key other) refl
  where
    by_test : (b : Bool) → bytes_eq key other ≡ b
        → flat_map listed_keyed (cond b (KeyedUnit other (value ∷ values) ∷ units) (KeyedUnit key (value ∷ []) ∷ KeyedUnit other values ∷ units))
        ≡ (BytesKey key, value) ∷ flat_map listed_keyed (KeyedUnit other values ∷ units)
    by_test true same = ap (λ k. (BytesKey k, value) ∷ flat_map listed_keyed (KeyedUnit other values ∷ units)) (sym (eq_same key other same))
    by_test false same = refl
with_listed key value (EntryUnit other deleted ∷ units) = refl

bytes_listed : (key : Key) → HasBytes key → BytesKey (bytes_in key) ≡ listed_key key
bytes_listed (Bytes key) has = refl
bytes_listed (Number number) has = absurd has

keyed_listed : (pairs : List Pair) → All (λ (pair : Pair). HasBytes pair.key) pairs → flat_map listed_keyed (keyed_units pairs) ≡ listed pairs
keyed_listed [] all = refl
keyed_listed (pair ∷ pairs) all =
    grind (arith, with_listed, bytes_listed, All-head, All-tail, keyed_listed pairs (All-tail (λ (pair : Pair). HasBytes pair.key) pair pairs all))

number_listed : (key : Key) → 1 ≤ number_of key → NumberKey (number_of key) ≡ listed_key key
number_listed (Bytes key) some = absurd (let none : 1 ≤ 0 = some in omega (arith, none))
number_listed (Number number) some = refl

missing_listed : (n next : ℕ) (units : List TreeUnit)
    → flat_map listed_record (enumerate_from next (replicate n missing ++ units)) ≡ flat_map listed_record (enumerate_from (next + n) units)
missing_listed zero next units = grind arith
missing_listed (suc n) next units = grind (arith, missing_listed n (next + 1) units)

records_listed : (next : ℕ) (pairs : List Pair) → 1 ≤ next → AscendFrom next pairs
    → flat_map listed_record (enumerate_from next (record_units next pairs)) ≡ listed pairs
records_listed next [] some ascend = refl
records_listed next (pair ∷ pairs) some (most, ascend) =
    grind (arith, missing_listed, number_listed, records_listed (number_of pair.key + 1) pairs (omega arith) ascend)

pub units_listed : (kind : Kind) (pairs : List Pair) → IsTreeKind kind → AreKeysOf kind pairs
    → list_of_units kind (units_in kind pairs) ≡ listed pairs
units_listed kind pairs is keys = grind (arith, keyed_listed, records_listed)
