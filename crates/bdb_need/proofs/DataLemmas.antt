-- The data of pairs, one after the other.
use Rattle.std.proofs.Common.{◌≡◌, ℕ, ◌+◌, ◌*◌, ◌<◌, ◌≤◌, List, [], length, get_or, take, arith, sym, ◌∙◌, ap, All, sum_by}
use Rattle.bdb_need.proofs.Common.{get_or-map, length-map, take_all, All-get_or, sum_by_more, TextPair, IsShort, values_in}

-- there is a datum for each pair
pub length-values : (pairs : List TextPair) → length (values_in pairs) ≡ length pairs
length-values pairs = length-map pairs (λ (pair : TextPair). pair.value)

pub values_within : (pairs : List TextPair) (i : ℕ) → i < length pairs → i < length (values_in pairs)
values_within pairs i within = omega (arith, within, length-values pairs)

pub values_past : (pairs : List TextPair) (i : ℕ) → length pairs ≤ i → length (values_in pairs) ≤ i
values_past pairs i past = omega (arith, past, length-values pairs)

pub value_here : (pairs : List TextPair) (i : ℕ) (pair : TextPair) (value : List ℕ) → i < length pairs → pair ≡ get_or pairs i pair
    → value ≡ pair.value → value ≡ get_or (values_in pairs) i []
value_here pairs i pair value within is value_is =
    value_is ∙ (ap (λ (p : TextPair). p.value) is ∙ sym (get_or-map (λ (p : TextPair). p.value) pairs i pair [] within))

pub short_here : (values : List (List ℕ)) (i : ℕ) (value : List ℕ) → All IsShort values → i < length values → value ≡ get_or values i [] → IsShort value
short_here values i value short within is = rw is (All-get_or IsShort values i [] within short)

-- a sum over the data passed, and one more
pub sum_more : (f : List ℕ → ℕ) (values : List (List ℕ)) (i : ℕ) (value : List ℕ) (total more most : ℕ) → i < length values → value ≡ get_or values i []
    → (total ≡ sum_by f (take i values)) × (total ≤ i * most) → more ≡ f value → more ≤ most
    → (total + more ≡ sum_by f (take (i + 1) values)) × (total + more ≤ (i + 1) * most)
sum_more f values i value total more most within value_is so_far more_is few = grind (arith, sum_by_more)

pub sum_end : (f : List ℕ → ℕ) (values : List (List ℕ)) (i : ℕ) (total : ℕ) → length values ≤ i → total ≡ sum_by f (take i values) → total ≡ sum_by f values
sum_end f values i total past is = is ∙ ap (sum_by f) (take_all i values past)
