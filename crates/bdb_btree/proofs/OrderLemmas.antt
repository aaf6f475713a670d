-- Keys of pairs, and data of pairs that share a key, gone through one after another.
use Rattle.std.proofs.Common.{◌≡◌, ℕ, Bool, true, false, not, cond, List, [], ◌∷◌, ◌++◌, Option, Some, None, arith, refl, sym, ◌∙◌, ap, subst, inl, inr, ◌==◌}
use Rattle.std.proofs.Common.{◌&&◌, ◌||◌}
use Rattle.std.specs.List.{Contains, flat_map, fold, list_any, take_while}
use Rattle.std.proofs.lemmas.Bool.{true≢false}
use Rattle.std.proofs.lemmas.Bool.Decides.{nat_tests}
use Rattle.std.proofs.lemmas.List.Sums.{fold-append, take_while-cons}
use Rattle.std.proofs.Math.Bool.{or-true}
use Rattle.bdb_ranks.specs.of_format.Terms.{File, StoredPair, ascends, ascends_from, has_unsorted, is_out_of_order, is_unsorted, live_data, neighbours}
use Rattle.bdb_ranks.specs.of_format.Terms.{neighbours_from}
use Rattle.bdb_ranks.proofs.of_format.MemberLemmas.{member_cases, no_member}
use Rattle.bdb_btree.specs.Rows.{Passed, has_wrong_order, next_pair, no_pairs_passed, passes}
use Rattle.bdb_ranks.specs.Order.{is_not_above}
use Rattle.bdb_btree.specs.Runs.{KeyOrder, Ascent, follow, is_wrong_key, next_key}

-- Keys.

abbrev wrong_keys : File → Bool → Passed → List StoredPair → ℕ → Bool
wrong_keys file sorted passed pairs p =
    list_any (λ (at : StoredPair × Passed). (at.0.page == p) && at.1.keys.wrong) (passes file sorted passed pairs)

keys_from : (file : File) (sorted : Bool) (pair : StoredPair) (pairs : List StoredPair) (passed : Passed) (p : ℕ) → passed.keys.before ≡ Some pair.key
    → wrong_keys file sorted passed pairs p
    ≡ list_any (λ (two : StoredPair × StoredPair). (two.1.page == p) && is_out_of_order two) (neighbours_from pair pairs)
keys_from file sorted pair [] passed p before = refl
keys_from file sorted pair (next ∷ pairs) passed p before = grind (arith, keys_from file sorted next pairs (next_pair file sorted passed next) p refl)

nothing_first : (a b c : Bool) → ((a && (b && false)) || c) ≡ c
nothing_first a b c = grind (arith, nat_tests)

-- the pairs that are noted are those out of order
pub keys_in_order : (file : File) (sorted : Bool) (pairs : List StoredPair) (p : ℕ)
    → list_any (λ (at : StoredPair × Passed). (at.0.page == p) && at.1.keys.wrong) (passes file sorted no_pairs_passed pairs)
    ≡ has_wrong_order pairs p
keys_in_order file sorted [] p = refl
keys_in_order file sorted (pair ∷ pairs) p =
    nothing_first (pair.page == p) (not pair.shares) _ ∙ keys_from file sorted pair pairs (next_pair file sorted no_pairs_passed pair) p refl

-- Whether all keys are in order.

pub keys_alone : (file : File) (sorted : Bool) (pairs : List StoredPair) (passed : Passed)
    → (fold (next_pair file sorted) passed pairs).keys ≡ fold next_key passed.keys pairs
keys_alone file sorted [] passed = refl
keys_alone file sorted (pair ∷ pairs) passed = keys_alone file sorted pairs (next_pair file sorted passed pair)

still : (out ordered : Bool) → cond out false ordered ≡ true → (out ≡ false) × (ordered ≡ true)
still true ordered is = absurd (true≢false (sym is))
still false ordered is = (refl, is)

ordered_before : (pairs : List StoredPair) (keys : KeyOrder) → (fold next_key keys pairs).ordered ≡ true → keys.ordered ≡ true
ordered_before [] keys is = is
ordered_before (pair ∷ pairs) keys is = (still (is_wrong_key keys pair) keys.ordered (ordered_before pairs (next_key keys pair) is)).1

ordered_from : (pair : StoredPair) (pairs : List StoredPair) (keys : KeyOrder) (two : StoredPair × StoredPair) → keys.before ≡ Some pair.key
    → (fold next_key keys pairs).ordered ≡ true → Contains (neighbours_from pair pairs) two → is_out_of_order two ≡ false
ordered_from pair [] keys two before is at = absurd (no_member [] two refl at)
ordered_from pair (next ∷ pairs) keys two before is at =
    elim (member_cases (pair, next) (neighbours_from next pairs) two at) [
      | inl here ↦
          subst (λ (other : StoredPair × StoredPair). is_out_of_order other ≡ false) here
          (ap (λ key. not next.shares && is_not_above key next.key) (sym before)
          ∙ (still (is_wrong_key keys next) keys.ordered (ordered_before pairs (next_key keys next) is)).0)
      | inr later ↦ ordered_from next pairs (next_key keys next) two refl is later
    ]

-- where no key was out of order, none of two that follow each other is
pub all_in_order : (pairs : List StoredPair) (two : StoredPair × StoredPair) → (fold next_key no_pairs_passed.keys pairs).ordered ≡ true
    → Contains (neighbours pairs) two → is_out_of_order two ≡ false
all_in_order [] two is at = absurd (no_member [] two refl at)
all_in_order (pair ∷ pairs) two is at = ordered_from pair pairs (next_key no_pairs_passed.keys pair) two refl is at

-- Data.

-- a pair that shares its key has this of the pair before it
abbrev pub Shares : {K : Type 0} → (StoredPair → K) → K → List StoredPair → Type 0
Shares of k [] = Unit {0}
Shares of k (pair ∷ pairs) = (pair.shares ≡ true → k ≡ of pair) × Shares of (of pair) pairs

-- it stands on that pair's page
abbrev pub SharesOnPage : ℕ → List StoredPair → Type 0
SharesOnPage p pairs = Shares (λ (pair : StoredPair). pair.page) p pairs

-- a run after some values
abbrev run_over : Option (List ℕ) → List (List ℕ) → Ascent
run_over last values = fold follow (record { last = last; broken = false }) values

run_on : (values : List (List ℕ)) (last : Option (List ℕ)) (broken : Bool)
    → ((fold follow (record { last = last; broken = broken }) values).last ≡ (run_over last values).last)
    × ((fold follow (record { last = last; broken = broken }) values).broken ≡ (broken || (run_over last values).broken))
run_on [] last true = (refl, refl)
run_on [] last false = (refl, refl)
run_on (value ∷ values) last true = grind (arith, Some, run_on values (Some value) true, run_on values (Some value) (is_not_above last value))
run_on (value ∷ values) last false = (refl, refl)

-- a run over more values goes on where the first ones ended
more_broken : (xs ys : List (List ℕ)) (last : Option (List ℕ))
    → (run_over last (xs ++ ys)).broken ≡ ((run_over last xs).broken || (run_over (run_over last xs).last ys).broken)
more_broken xs ys last = grind (arith, fold-append, run_on)

not_both : (a b : Bool) → not (a && b) ≡ (not a || not b)
not_both a b = grind (arith, nat_tests)

broken_from : (value : List ℕ) (values : List (List ℕ)) → (run_over (Some value) values).broken ≡ not (ascends_from value values)
broken_from value [] = refl
broken_from value (next ∷ values) = grind (arith, run_on, Some, not_both, broken_from next values)

-- a run is broken where its values don't ascend
broken_unless_ascends : (values : List (List ℕ)) → (run_over None values).broken ≡ not (ascends values)
broken_unless_ascends [] = refl
broken_unless_ascends (value ∷ values) = broken_from value values

still_broken : (values : List (List ℕ)) (last : Option (List ℕ)) → (run_over None values).broken ≡ true → (run_over last values).broken ≡ true
still_broken [] last broken = broken
still_broken (value ∷ values) last broken =
    (run_on values (Some value) (is_not_above last value)).1 ∙ (ap (λ b. is_not_above last value || b) broken ∙ or-true (is_not_above last value))

-- the live data of the pairs from here on that share the key
abbrev shared_data : File → List StoredPair → List (List ℕ)
shared_data file pairs = flat_map (live_data file) (take_while (λ (other : StoredPair). other.shares) pairs)

shared_more : (file : File) (pair : StoredPair) (pairs : List StoredPair)
    → shared_data file (pair ∷ pairs) ≡ cond pair.shares (live_data file pair ++ shared_data file pairs) []
shared_more file pair pairs = grind (arith, take_while-cons)

-- where a pair begins its run
abbrev begins : Option (List ℕ) → StoredPair → Option (List ℕ)
begins last pair = cond pair.shares last None

-- the pages of the pairs whose data don't follow, each with whether they don't
abbrev marks : File → Option (List ℕ) → List StoredPair → List (ℕ × Bool)
marks file last [] = []
marks file last (pair ∷ pairs) =
    (pair.page, (run_over (begins last pair) (live_data file pair)).broken) ∷ marks file
    (run_over (begins last pair) (live_data file pair)).last pairs

abbrev is_marked : List (ℕ × Bool) → ℕ → Bool
is_marked marked p = list_any (λ (mark : ℕ × Bool). (mark.0 == p) && mark.1) marked

data_marks : (file : File) (pairs : List StoredPair) (passed : Passed) (p : ℕ)
    → list_any (λ (at : StoredPair × Passed). (at.0.page == p) && at.1.values.broken) (passes file true passed pairs)
    ≡ is_marked (marks file passed.values.last pairs) p
data_marks file [] passed p = refl
data_marks file (pair ∷ pairs) passed p =
    ap (λ b. ((pair.page == p) && (next_pair file true passed pair).values.broken) || b) (data_marks file pairs (next_pair file true passed pair) p)

regroup : (a b c d : Bool) → ((a && b) || ((a && c) || d)) ≡ ((a && (b || c)) || d)
regroup a b c d = grind (arith, nat_tests)

absorb : (a b c d : Bool) → (c ≡ true → b ≡ true) → ((a && b) || d) ≡ ((a && b) || ((a && c) || d))
absorb a b c d more = grind (arith, nat_tests, more)

-- the data of a group from a pair on, where the pair shares its key or not
group_step : (file : File) (q : ℕ) (last : Option (List ℕ)) (pair : StoredPair) (pairs : List StoredPair) (p : ℕ) (rest : Bool) (b : Bool)
    → pair.shares ≡ b → (pair.shares ≡ true → q ≡ pair.page)
    → (((pair.page == p) && (run_over (begins last pair) (live_data file pair ++ shared_data file pairs)).broken) || rest)
    ≡ (((q == p) && (run_over last (shared_data file (pair ∷ pairs))).broken) || (((pair.page == p) && (run_over None
    (live_data file pair ++ shared_data file pairs)).broken) || rest))
group_step file q last pair pairs p rest true same on_page = grind (arith, None, shared_more, absorb, still_broken)
group_step file q last pair pairs p rest false same on_page = grind (arith, None, shared_more, nothing_first, nat_tests)

-- the pages that are marked are those of groups whose data don't ascend, the first of which may have begun before
marked_groups : (file : File) (q : ℕ) (last : Option (List ℕ)) (pairs : List StoredPair) (p : ℕ) → SharesOnPage q pairs
    → is_marked (marks file last pairs) p ≡ (((q == p) && (run_over last (shared_data file pairs)).broken) || has_unsorted file pairs p)
marked_groups file q last [] p shares = grind (arith, nat_tests)
marked_groups file q last (pair ∷ pairs) p shares =
    let here : List (List ℕ) = live_data file pair in
    let later : List (List ℕ) = shared_data file pairs in
    let run : Ascent = run_over (begins last pair) here in
    let at : Bool = pair.page == p in
    let rest : Bool = has_unsorted file pairs p in
    -- the data of this pair and of those after it that share its key are told at once
    let together : is_marked (marks file last (pair ∷ pairs)) p ≡ ((at && (run_over (begins last pair) (here ++ later)).broken) || rest) =
    ap (λ b. (at && run.broken) || b) (marked_groups file pair.page run.last pairs p shares.1)
    ∙ (regroup at run.broken (run_over run.last later).broken rest ∙ ap (λ b. (at && b) || rest) (sym (more_broken here later (begins last pair)))) in
    together
    ∙ (group_step file q last pair pairs p rest pair.shares refl shares.0
    ∙ ap (λ b. ((q == p) && (run_over last (shared_data file (pair ∷ pairs))).broken) || ((at && b) || rest)) (broken_unless_ascends (here ++ later)))

-- the first pair shares no key of a pair before it
abbrev pub ShareOnPage : List StoredPair → Type 0
ShareOnPage [] = Unit {0}
ShareOnPage (pair ∷ pairs) = SharesOnPage pair.page pairs

-- the pairs that are noted are those of the row
pub data_in_order : (file : File) (pairs : List StoredPair) (p : ℕ) → ShareOnPage pairs
    → list_any (λ (at : StoredPair × Passed). (at.0.page == p) && at.1.values.broken) (passes file true no_pairs_passed pairs)
    ≡ has_unsorted file pairs p
data_in_order file [] p share = refl
data_in_order file (pair ∷ pairs) p share =
    data_marks file (pair ∷ pairs) no_pairs_passed p
    ∙ (marked_groups file pair.page None (pair ∷ pairs) p (λ shares. refl, share) ∙ first_group p)
  where
    at_first : (a b c : Bool) (d : Bool) → (d ≡ true → b ≡ true) → ((a && d) || ((a && b) || c)) ≡ ((a && b) || c)
    at_first a b c d more = grind (arith, nat_tests, more)

    part_of : (values : List (List ℕ)) (b : Bool) → shared_data file (pair ∷ pairs) ≡ cond b values []
        → (run_over None (shared_data file (pair ∷ pairs))).broken ≡ true → (run_over None values).broken ≡ true
    part_of values true same broken = ap (λ vs. (run_over None vs).broken) (sym same) ∙ broken
    part_of values false same broken = absurd (true≢false (sym broken ∙ ap (λ vs. (run_over None vs).broken) same))

    first_group : (p : ℕ) → (((pair.page == p) && (run_over None (shared_data file (pair ∷ pairs))).broken) || has_unsorted file (pair ∷ pairs) p)
        ≡ has_unsorted file (pair ∷ pairs) p
    first_group p =
        at_first (pair.page == p) (is_unsorted file (pair, take_while (λ (other : StoredPair). other.shares) pairs)) (has_unsorted file pairs p)
        (run_over None (shared_data file (pair ∷ pairs))).broken
        (λ broken. sym (broken_unless_ascends (live_data file pair ++ shared_data file pairs))
        ∙ part_of (live_data file pair ++ shared_data file pairs) pair.shares (shared_more file pair pairs) broken)
