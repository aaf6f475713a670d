-- Lists in their order, and the rules that their units keep.
use Rattle.std.proofs.Common.{Bool, ◌≡◌, ℕ, suc, zero, ◌+◌, ◌-◌, ◌<◌, ◌≤◌, true, false, cond, not, List, [], ◌∷◌, map, replicate, arith, refl, sym, ◌∙◌, ap, subst, inl, inr, true≢false, ◌&&◌, ◌||◌, All}
use Rattle.bdb_mktree.proofs.Common.{both_true, bytes_eq, and_parts, ltb-true, or_cases, All-append, All-cons, All-head, All-nil, All-tail, Btree, Recno, Settings, ascends, less, eq_same, less_self}
use Rattle.bdb_mktree.proofs.Common.{Pair, AscendFrom, number_of, EntryUnit, KeyedUnit, TreeUnit, key_of, AreKeysOf, HasBytes, IsKeyFor, IsTreeList, IsPairFor, bytes_in, is_further, is_in_order}
use Rattle.bdb_mktree.proofs.Common.{keyed_units, may_follow, missing, record_units, units_in, onto_units, IsShortUnit, IsTreeKind, KeysAscend, Suits}
use Rattle.bdb_mkleaves.specs.Runs.{IsShort}

-- Keys.

-- units that suit the settings, whose keys ascend; the first has this key, and this datum first
record Stand (settings : Settings) (key value : List ℕ) (units : List TreeUnit) : Type 0 where
  values : List (List ℕ)
  others : List TreeUnit
  is : units ≡ KeyedUnit key (value ∷ values) ∷ others
  suit : All (Suits settings) units
  short : All IsShortUnit units
  keys : ascends (map key_of units) ≡ true

-- a pair by itself
alone : (settings : Settings) (key value : List ℕ) → settings.kind ≡ Btree → IsShort key → IsShort value
    → Stand settings key value (onto_units key value [])
alone settings key value btree short_key short = grind (arith, All-cons, All-nil)

ordered : (sorted above : Bool) → (not sorted || above) ≡ true → sorted ≡ true → above ≡ true
ordered true above is asked = is
ordered false above is asked = cc

-- a pair before units that stand
before : (settings : Settings) (key value next_key next_value : List ℕ) (values : List (List ℕ)) (units : List TreeUnit) → settings.kind ≡ Btree
    → IsShort key → IsShort value → All (Suits settings) (KeyedUnit next_key (next_value ∷ values) ∷ units)
    → All IsShortUnit (KeyedUnit next_key (next_value ∷ values) ∷ units)
    → ascends (map key_of (KeyedUnit next_key (next_value ∷ values) ∷ units)) ≡ true
    → (less key next_key || (bytes_eq key next_key && is_further settings value next_value)) ≡ true
    → Stand settings key value (onto_units key value (KeyedUnit next_key (next_value ∷ values) ∷ units))
before settings key value next_key next_value values units btree short_key short_value suit short keys follow = by_test (bytes_eq key next_key) refl
  where
    first : TreeUnit
    first = KeyedUnit next_key (next_value ∷ values)

    by_test : (b : Bool) → bytes_eq key next_key ≡ b
        → Stand settings key value
        (cond b (KeyedUnit next_key (value ∷ next_value ∷ values) ∷ units)
        (KeyedUnit key (value ∷ []) ∷ KeyedUnit next_key (next_value ∷ values) ∷ units))
    by_test true same =
        let key_is : key ≡ next_key = eq_same key next_key same in
        let further : is_further settings value next_value ≡ true =
        elim (or_cases (less key next_key) (bytes_eq key next_key && is_further settings value next_value) follow) [
          | inl above ↦ absurd (true≢false (sym above ∙ (ap (λ k. less k next_key) key_is ∙ less_self next_key)))
          | inr more ↦ (and_parts (bytes_eq key next_key) (is_further settings value next_value) more).1
        ] in
        let parts = and_parts settings.duplicates (not settings.sorted || less value next_value) further in
        let old = All-head (Suits settings) first units suit in
        let lengths = All-head IsShortUnit first units short in
        record {
          values = next_value ∷ values;
          others = units;
          is = ap (λ k. KeyedUnit k (value ∷ next_value ∷ values) ∷ units) (sym key_is);
          suit = All-cons (Suits settings) (KeyedUnit next_key (value ∷ next_value ∷ values)) units
              (record {
                kind = btree;
                some = omega arith;
                single = λ none. absurd (true≢false (sym parts.0 ∙ none));
                in_order = λ sorted. both_true (ordered settings.sorted (less value next_value) parts.1 sorted) (old.in_order sorted);
              })
              (All-tail (Suits settings) first units suit);
          short = All-cons IsShortUnit (KeyedUnit next_key (value ∷ next_value ∷ values)) units
              (lengths.0, All-cons IsShort value (next_value ∷ values) short_value lengths.1) (All-tail IsShortUnit first units short);
          keys = keys;
        }
    by_test false other =
        let above : less key next_key ≡ true =
        elim (or_cases (less key next_key) (bytes_eq key next_key && is_further settings value next_value) follow) [
          | inl above ↦ above
          | inr more ↦ absurd (true≢false (sym (and_parts (bytes_eq key next_key) (is_further settings value next_value) more).0 ∙ other))
        ] in
        record {
          values = [];
          others = KeyedUnit next_key (next_value ∷ values) ∷ units;
          is = refl;
          suit = All-cons (Suits settings) (KeyedUnit key (value ∷ [])) (first ∷ units)
              (record { kind = btree; some = omega arith; single = λ none. refl; in_order = λ sorted. refl }) suit;
          short = All-cons IsShortUnit (KeyedUnit key (value ∷ [])) (first ∷ units)
              (short_key, All-cons IsShort value [] short_value (All-nil IsShort)) short;
          keys = both_true above keys;
        }

keyed_stand : (settings : Settings) (pair : Pair) (pairs : List Pair) → settings.kind ≡ Btree → All (IsPairFor settings) (pair ∷ pairs)
    → is_in_order settings (pair ∷ pairs) ≡ true → Stand settings (bytes_in pair.key) pair.value (keyed_units (pair ∷ pairs))
keyed_stand settings pair [] btree each in_order = grind (arith, All-head, alone)
keyed_stand settings pair (next ∷ pairs) btree each in_order =
    let is = All-head (IsPairFor settings) pair (next ∷ pairs) each in
    let parts = and_parts (may_follow settings.kind settings pair next) (is_in_order settings (next ∷ pairs)) in_order in
    let rest = keyed_stand settings next pairs btree (All-tail (IsPairFor settings) pair (next ∷ pairs) each) parts.1 in
    subst (λ us. Stand settings (bytes_in pair.key) pair.value (onto_units (bytes_in pair.key) pair.value us)) (sym rest.is)
    (before settings (bytes_in pair.key) pair.value (bytes_in next.key) next.value rest.values rest.others btree
    (subst (λ k. IsKeyFor k pair.key) btree is.key).1 is.short
    (subst (All (Suits settings)) rest.is rest.suit) (subst (All IsShortUnit) rest.is rest.short)
    (subst (λ us. ascends (map key_of us) ≡ true) rest.is rest.keys)
    (sym (ap (λ k. may_follow k settings pair next) btree) ∙ parts.0))

have_bytes : (settings : Settings) (pairs : List Pair) → settings.kind ≡ Btree → All (IsPairFor settings) pairs
    → All (λ (pair : Pair). HasBytes pair.key) pairs
have_bytes settings [] btree each = All-nil (λ (pair : Pair). HasBytes pair.key)
have_bytes settings (pair ∷ pairs) btree each =
    grind (arith, All-cons, All-head, All-tail, have_bytes settings pairs btree (All-tail (IsPairFor settings) pair pairs each))

-- Records.

records_rise : (settings : Settings) (next : ℕ) (pair : Pair) (pairs : List Pair) → settings.kind ≡ Recno → All (IsPairFor settings) (pair ∷ pairs)
    → is_in_order settings (pair ∷ pairs) ≡ true → next ≤ number_of pair.key → AscendFrom next (pair ∷ pairs)
records_rise settings next pair [] recno each in_order low = (low, tt)
records_rise settings next pair (other ∷ pairs) recno each in_order low =
    let parts = and_parts (may_follow settings.kind settings pair other) (is_in_order settings (other ∷ pairs)) in_order in
    let above : number_of pair.key < number_of other.key =
    ltb-true (number_of pair.key) (number_of other.key) (sym (ap (λ k. may_follow k settings pair other) recno) ∙ parts.0) in (
      low,
      records_rise settings (number_of pair.key + 1) other pairs recno (All-tail (IsPairFor settings) pair (other ∷ pairs) each) parts.1
          (omega (arith, above)),
    )

records_ascend : (settings : Settings) (pairs : List Pair) → settings.kind ≡ Recno → IsTreeList settings pairs → AscendFrom 1 pairs
records_ascend settings [] recno list = tt
records_ascend settings (pair ∷ pairs) recno list = grind (arith, records_rise, All-head)

missing_suit : (settings : Settings) (n : ℕ) → settings.kind ≡ Recno → All (Suits settings) (replicate n missing)
missing_suit settings zero recno = All-nil (Suits settings)
missing_suit settings (suc n) recno = grind (arith, All-cons, missing_suit settings n recno)

missing_short : (n : ℕ) → All IsShortUnit (replicate n missing)
missing_short zero = All-nil IsShortUnit
missing_short (suc n) = All-cons IsShortUnit missing (replicate n missing) (omega arith) (missing_short n)

records_suit : (settings : Settings) (next : ℕ) (pairs : List Pair) → settings.kind ≡ Recno → All (IsPairFor settings) pairs
    → All (Suits settings) (record_units next pairs) × All IsShortUnit (record_units next pairs)
records_suit settings next [] recno each = (All-nil (Suits settings), All-nil IsShortUnit)
records_suit settings next (pair ∷ pairs) recno each =
    let is = All-head (IsPairFor settings) pair pairs each in
    let rest = records_suit settings (number_of pair.key + 1) pairs recno (All-tail (IsPairFor settings) pair pairs each) in
    let unit : TreeUnit = EntryUnit pair.value false in
    let units : List TreeUnit = record_units (number_of pair.key + 1) pairs in (
      All-append (Suits settings) (replicate (number_of pair.key - next) missing) (unit ∷ units)
          (missing_suit settings (number_of pair.key - next) recno)
          (All-cons (Suits settings) unit units
          (record { kind = recno; missing = λ gone. cc; long = λ fixed live. is.long recno fixed }) rest.0),
      All-append IsShortUnit (replicate (number_of pair.key - next) missing) (unit ∷ units) (missing_short (number_of pair.key - next))
          (All-cons IsShortUnit unit units is.short rest.1),
    )

-- Of either kind.

pub record FitUnits (settings : Settings) (units : List TreeUnit) : Type 0 where
  pub suit : All (Suits settings) units
  pub keys : KeysAscend settings units
  pub short : All IsShortUnit units

keyed_fit : (settings : Settings) (pairs : List Pair) → settings.kind ≡ Btree → IsTreeList settings pairs → FitUnits settings (keyed_units pairs)
keyed_fit settings [] btree list = record { suit = All-nil (Suits settings); keys = λ is. refl; short = All-nil IsShortUnit }
keyed_fit settings (pair ∷ pairs) btree list =
    let stand = keyed_stand settings pair pairs btree list.each list.in_order in
    record { suit = stand.suit; keys = λ is. stand.keys; short = stand.short }

records_fit : (settings : Settings) (pairs : List Pair) → settings.kind ≡ Recno → IsTreeList settings pairs → FitUnits settings (record_units 1 pairs)
records_fit settings pairs recno list =
    let suit = records_suit settings 1 pairs recno list.each in
    record { suit = suit.0; keys = λ btree. absurd (cc (sym recno ∙ btree)); short = suit.1 }

pub units_fit : (settings : Settings) (pairs : List Pair) → IsTreeKind settings.kind → IsTreeList settings pairs
    → FitUnits settings (units_in settings.kind pairs)
units_fit settings pairs kind list = grind (arith, keyed_fit, records_fit)

pub keys_fit : (settings : Settings) (pairs : List Pair) → IsTreeKind settings.kind → IsTreeList settings pairs → AreKeysOf settings.kind pairs
keys_fit settings pairs kind list = grind (arith, have_bytes, records_ascend)
