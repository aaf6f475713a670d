-- The units of a recno: what is counted of those that were passed.
use Rattle.std.proofs.Common.{◌≡◌, ℕ, zero, suc, ◌+◌, ◌-◌, ◌*◌, ◌<◌, ◌≤◌, ◌^◌, Bool, false, List, [], ◌∷◌, length, map, replicate, get_or, slice_get, Some, drop, arith, refl, sym, ◌∙◌, ap, subst, ◌/◌, sum_by}
use Rattle.bdb_need.proofs.Common.{drop_of_length-le, le-leb, drop_more, get_or-map, length-map, length-replicate, sum_by-append, sum_by-cons, get_or_from_slice_get, slice_get_within, Settings, Pair}
use Rattle.bdb_need.proofs.Common.{TextPair, AscendFrom, number_of, own_pages, pages_over, tree_size, EntryUnit, TreeUnit, chain_pages, unit_cost, Records, missing, record_units, filled_pair}
use Rattle.bdb_need.proofs.Common.{filled_pairs, OpenPage, ArePut, values_in, unlined_pairs, unlined}
use Rattle.std.proofs.lemmas.List.Folds.{sum_by-replicate}
use Rattle.bdb_need.proofs.TreeLemmas.{CountedTo, counted_end, counted_next}

-- A missing record.

missing_pages : (size : ℕ) (sorted : Bool) → own_pages size sorted missing ≡ 0
missing_pages size sorted = rw (le-leb 0 (size / 8) (omega arith)) refl

missing_costs : (size n : ℕ) → replicate n (unit_cost size missing) ≡ map (unit_cost size) (replicate n missing)
missing_costs size zero = refl
missing_costs size (suc n) = ap (λ (cs : List ℕ). unit_cost size missing ∷ cs) (missing_costs size n)

-- records have chains alone
own_records : (size : ℕ) (sorted : Bool) (next : ℕ) (pairs : List TextPair)
    → sum_by (own_pages size sorted) (record_units next (unlined_pairs pairs)) ≡ sum_by (chain_pages size) (values_in pairs)
own_records size sorted next [] = refl
own_records size sorted next (pair ∷ pairs) =
    let gap : ℕ = number_of pair.key - next in
    let unit : TreeUnit = EntryUnit pair.value false in
    let rest : List TreeUnit = record_units (number_of pair.key + 1) (unlined_pairs pairs) in
    let split = sum_by-append (own_pages size sorted) (replicate gap missing) (unit ∷ rest) in
    let gone = sum_by-replicate (own_pages size sorted) gap missing in
    let zeros = ap (λ n. gap * n) (missing_pages size sorted) in
    let first = sum_by-cons (own_pages size sorted) unit rest in
    let chains = sum_by-cons (chain_pages size) pair.value (values_in pairs) in
    let later = own_records size sorted (number_of pair.key + 1) pairs in
    omega (arith, split, gone, zeros, first, chains, later)

-- The records before a place are counted, and the missing ones before them.
pub record RecordsPassed (size : ℕ) (pairs : List TextPair) (i next : ℕ) (open_page : OpenPage) : Type 0 where
  pub ascend : AscendFrom next (drop i (unlined_pairs pairs))
  pub counted : CountedTo size (record_units 1 (unlined_pairs pairs)) (record_units next (drop i (unlined_pairs pairs))) open_page
  pub closed : open_page.closed < next
  pub few : next ≤ 2 ^ 32

here : (pairs : List TextPair) (i : ℕ) (pair : TextPair) → i < length pairs → pair ≡ get_or pairs i pair
    → drop i (unlined_pairs pairs) ≡ unlined pair ∷ drop (i + 1) (unlined_pairs pairs)
here pairs i pair within is =
    let long = length-map pairs unlined in
    drop_more (unlined_pairs pairs) i (unlined pair) (omega (arith, within, long))
    ∙ ap (λ (p : Pair). p ∷ drop (i + 1) (unlined_pairs pairs)) (get_or-map unlined pairs i pair (unlined pair) within ∙ ap unlined (sym is))

pub pair_here : (pairs : List TextPair) (i : ℕ) (pair : TextPair) → slice_get pairs i ≡ Some pair → (i < length pairs) × (pair ≡ get_or pairs i pair)
pair_here pairs i pair at = (slice_get_within pairs i pair at, sym (get_or_from_slice_get pairs i pair pair at))

-- The same records, filled up.

pub filled_within : (settings : Settings) (pairs : List TextPair) (i : ℕ) → i < length pairs → i < length (filled_pairs settings pairs)
filled_within settings pairs i within = let long = length-map pairs (filled_pair settings) in omega (arith, within, long)

pub filled_past : (settings : Settings) (pairs : List TextPair) (i : ℕ) → length pairs ≤ i → length (filled_pairs settings pairs) ≤ i
filled_past settings pairs i past = let long = length-map pairs (filled_pair settings) in omega (arith, past, long)

pub filled_here : (settings : Settings) (pairs : List TextPair) (i : ℕ) (pair : TextPair) → i < length pairs → pair ≡ get_or pairs i pair
    → filled_pair settings pair ≡ get_or (filled_pairs settings pairs) i (filled_pair settings pair)
filled_here settings pairs i pair within is =
    ap (filled_pair settings) is ∙ sym (get_or-map (filled_pair settings) pairs i pair (filled_pair settings pair) within)

pub number_after : (size : ℕ) (pairs : List TextPair) (i next number : ℕ) (pair : TextPair) (open_page : OpenPage)
    → RecordsPassed size pairs i next open_page → i < length pairs → pair ≡ get_or pairs i pair → number ≡ number_of pair.key → next ≤ number
number_after size pairs i next number pair open_page passed within is number_is =
    let low = (subst (AscendFrom next) (here pairs i pair within is) passed.ascend).0 in
    omega (arith, low, number_is)

pub records_next : (size : ℕ) (pairs : List TextPair) (i next number none cost : ℕ) (pair : TextPair) (old middle new : OpenPage)
    → RecordsPassed size pairs i next old → i < length pairs → pair ≡ get_or pairs i pair → number ≡ number_of pair.key → number < 2 ^ 32
    → none ≡ unit_cost size missing → cost ≡ unit_cost size (EntryUnit pair.value false) → ArePut old middle (replicate (number - next) none)
    → ArePut middle new (cost ∷ []) → RecordsPassed size pairs (i + 1) (number + 1) new
records_next size pairs i next number none cost pair old middle new passed within is number_is few none_is cost_is gap_put put =
    let all : List TreeUnit = record_units 1 (unlined_pairs pairs) in
    let split = here pairs i pair within is in
    let parts = subst (AscendFrom next) split passed.ascend in
    let low = parts.0 in
    let rest : List TreeUnit = record_units (number_of pair.key + 1) (drop (i + 1) (unlined_pairs pairs)) in
    let unit : TreeUnit = EntryUnit pair.value false in
    let gap : number - next ≡ number_of pair.key - next = ap (λ n. n - next) number_is in
    let start = subst (λ (ps : List Pair). CountedTo size all (record_units next ps) old) split passed.counted in
    let after_gap = counted_next size all (replicate (number_of pair.key - next) missing) (unit ∷ rest) (replicate (number - next) none) old middle start
    gap_put (ap (λ n. replicate n none) gap ∙ (ap (replicate (number_of pair.key - next)) none_is ∙ missing_costs size (number_of pair.key - next))) in
    let after = counted_next size all (unit ∷ []) rest (cost ∷ []) middle new after_gap put (ap (λ n. n ∷ []) cost_is) in
    let before = passed.closed in
    let one = gap_put.few in
    let two = put.few in
    let long = length-replicate {A = ℕ} (number - next) none in
    record {
      ascend = subst (λ n. AscendFrom (n + 1) (drop (i + 1) (unlined_pairs pairs))) (sym number_is) parts.1;
      counted = subst (λ n. CountedTo size all (record_units (n + 1) (drop (i + 1) (unlined_pairs pairs))) new) (sym number_is) after;
      closed = omega (arith, before, one, two, long, low, number_is);
      few = omega (arith, few);
    }

pub records_end : (size : ℕ) (sorted : Bool) (pairs : List TextPair) (i next chains tree : ℕ) (open_page : OpenPage) → length pairs ≤ i
    → RecordsPassed size pairs i next open_page → chains ≡ sum_by (chain_pages size) (values_in pairs)
    → tree ≡ (open_page.closed + 1) + pages_over (open_page.closed + 1) open_page.room 10 (replicate (open_page.closed + 1) 10)
    → chains + tree ≡ tree_size Records size sorted (record_units 1 (unlined_pairs pairs))
records_end size sorted pairs i next chains tree open_page past passed chains_are is =
    let long = length-map pairs unlined in
    let none : drop i (unlined_pairs pairs) ≡ [] = drop_of_length-le (unlined_pairs pairs) (omega (arith, past, long)) in
    let leaves = counted_end size tree (record_units 1 (unlined_pairs pairs)) open_page
    (subst (λ (ps : List Pair). CountedTo size (record_units 1 (unlined_pairs pairs)) (record_units next ps) open_page) none passed.counted) is in
    let own = own_records size sorted 1 pairs in
    omega (arith, leaves, own, chains_are)
