-- What lists in their order give to the calls that count.
use Rattle.std.proofs.Common.{◌≡◌, ℕ, Bool, true, false, List, [], ◌∷◌, length, refl, ◌∙◌, ap, subst, arith, inl, inr, ◌&&◌, All}
use Rattle.bdb_need.proofs.Common.{append-nil, and-false, All-cons, All-head, All-nil, All-tail, Btree, Recno, Settings, Pair, TextPair, AscendFrom, holds_records, IsShort, AreKeysOf, HasBytes}
use Rattle.bdb_need.proofs.Common.{IsTreeList, IsPairFor, keyed_units, units_in, IsShortUnit, IsTreeKind, filled_pair, filled_pairs, filled_value, has_length, as_they_are, value_as_is, values_in}
use Rattle.bdb_need.proofs.Common.{unlined_pairs, unlined}
use Rattle.bdb_mkhash.proofs.of_mktree.OrderLemmas.{keys_fit, units_fit}

pub short_units : (settings : Settings) (pairs : List TextPair) → settings.kind ≡ Btree → IsTreeList settings (unlined_pairs pairs)
    → All IsShortUnit (keyed_units (unlined_pairs pairs))
short_units settings pairs btree list =
    subst (λ k. All IsShortUnit (units_in k (unlined_pairs pairs))) btree (units_fit settings (unlined_pairs pairs) (inl btree) list).short

pub keys_have_bytes : (settings : Settings) (pairs : List TextPair) → settings.kind ≡ Btree → IsTreeList settings (unlined_pairs pairs)
    → All (λ (pair : Pair). HasBytes pair.key) (unlined_pairs pairs)
keys_have_bytes settings pairs btree list = subst (λ k. AreKeysOf k (unlined_pairs pairs)) btree (keys_fit settings (unlined_pairs pairs) (inl btree) list)

pub numbers_ascend : (settings : Settings) (pairs : List TextPair) → settings.kind ≡ Recno → IsTreeList settings (unlined_pairs pairs)
    → AscendFrom 1 (unlined_pairs pairs)
numbers_ascend settings pairs recno list = subst (λ k. AreKeysOf k (unlined_pairs pairs)) recno (keys_fit settings (unlined_pairs pairs) (inr recno) list)

short_pairs : (settings : Settings) (pairs : List TextPair) → All (IsPairFor settings) (unlined_pairs pairs) → All IsShort (values_in pairs)
short_pairs settings [] all = All-nil IsShort
short_pairs settings (pair ∷ pairs) all =
    All-cons IsShort pair.value (values_in pairs) (All-head (IsPairFor settings) (unlined pair) (unlined_pairs pairs) all).short
    (short_pairs settings pairs (All-tail (IsPairFor settings) (unlined pair) (unlined_pairs pairs) all))

pub short_values : (settings : Settings) (pairs : List TextPair) → IsTreeList settings (unlined_pairs pairs) → All IsShort (values_in pairs)
short_values settings pairs list = short_pairs settings pairs list.each

-- Lists whose records have their length.

-- keys have no records
pub keyed_as_is : (settings : Settings) (pairs : List TextPair) → settings.kind ≡ Btree → filled_pairs settings pairs ≡ pairs
keyed_as_is settings pairs btree = as_they_are settings pairs (ap (λ k. settings.fixed && holds_records k) btree ∙ and-false settings.fixed)

value_before : (settings : Settings) (value : List ℕ) → length value ≡ settings.re_len → (b : Bool) → has_length settings ≡ b
    → filled_value settings value ≡ value
value_before settings value long false is = value_as_is settings value is
value_before settings value long true is = grind (arith, append-nil)

fixed_is : (a b : Bool) → (a && b) ≡ true → a ≡ true
fixed_is true b is = refl
fixed_is false b is = absurd cc

pair_before : (settings : Settings) (pair : TextPair) (b : Bool) → has_length settings ≡ b → IsTreeKind settings.kind → IsPairFor settings (unlined pair)
    → filled_pair settings pair ≡ pair
pair_before settings pair false is kind fits =
    ap (λ (value : List ℕ). record { key = pair.key; value = value; line = pair.line }) (value_as_is settings pair.value is)
pair_before settings pair true is (inl btree) fits = grind (arith, value_as_is, and-false)
pair_before settings pair true is (inr recno) fits = grind (arith, value_before, fixed_is)

pairs_before : (settings : Settings) (pairs : List TextPair) → IsTreeKind settings.kind → All (IsPairFor settings) (unlined_pairs pairs)
    → filled_pairs settings pairs ≡ pairs
pairs_before settings [] kind all = refl
pairs_before settings (pair ∷ pairs) kind all =
    grind (arith, pair_before, All-head, All-tail, pairs_before settings pairs kind (All-tail (IsPairFor settings) (unlined pair) (unlined_pairs pairs) all))

-- a list in its order is filled up already
pub filled_before : (settings : Settings) (pairs : List TextPair) → IsTreeKind settings.kind → IsTreeList settings (unlined_pairs pairs)
    → filled_pairs settings pairs ≡ pairs
filled_before settings pairs kind list = pairs_before settings pairs kind list.each
