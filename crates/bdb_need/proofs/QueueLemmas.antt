-- The greatest record of a queue.
use Rattle.std.proofs.Common.{◌≡◌, ℕ, ◌+◌, ◌-◌, ◌≤◌, List, [], ◌∷◌, length, get_or, Option, Some, arith, refl, sym, ◌∙◌, ap, subst, slice_get, ◌/◌, option_map}
use Rattle.bdb_need.proofs.Common.{get_or_from_slice_get, slice_get_within, TextPair, AscendFrom, key_seen, number_of, pair_seen, queue_size, next_number, unlined_pairs}
use Rattle.bdb_mkhash.specs.of_text_format.declared.lent.PairRef.{PairRef}
use Rattle.bdb_mkqueue.proofs.RecordLemmas.{next_low}

-- the number after the last
next_of : (x : TextPair) (xs : List TextPair) (d : TextPair)
    → next_number (number_of x.key + 1) (unlined_pairs xs) ≡ number_of (get_or (x ∷ xs) (length xs) d).key + 1
next_of x [] d = refl
next_of x (y ∷ ys) d = next_of y ys d

-- the greatest number is that of the last pair, and the pages are those up to its page
pub record IsGreatest (pairs : List TextPair) (number : ℕ) : Type 0 where
  pub low : 1 ≤ number
  pub size : (per_page : ℕ) → queue_size per_page (unlined_pairs pairs) ≡ 1 + (number - 1) / per_page

last_greatest : (pairs : List TextPair) (pair : TextPair) (number : ℕ) → Some pair ≡ slice_get pairs (length pairs - 1) → number ≡ number_of pair.key
    → AscendFrom 1 (unlined_pairs pairs) → IsGreatest pairs number
last_greatest [] pair number at is ascend = absurd (omega (arith, slice_get_within [] (length {A = TextPair} [] - 1) pair (sym at)))
last_greatest (x ∷ xs) pair number at is ascend =
    let here : get_or (x ∷ xs) (length xs) pair ≡ pair =
    ap (λ i. get_or (x ∷ xs) i pair) (let e : length xs ≡ length (x ∷ xs) - 1 = omega arith in e)
    ∙ get_or_from_slice_get (x ∷ xs) (length (x ∷ xs) - 1) pair pair (sym at) in
    let next : next_number (number_of x.key + 1) (unlined_pairs xs) ≡ number + 1 =
    next_of x xs pair ∙ (ap (λ (p : TextPair). number_of p.key + 1) here ∙ ap (λ n. n + 1) (sym is)) in
    let low : number_of x.key + 1 ≤ next_number (number_of x.key + 1) (unlined_pairs xs) = next_low (number_of x.key + 1) (unlined_pairs xs) ascend.1 in
    let first : 1 ≤ number_of x.key = ascend.0 in
    let same : next_number (number_of x.key + 1) (unlined_pairs xs) - 1 ≡ number = omega (arith, next) in
    record {
      low = omega (arith, low, first, next);
      size = λ per_page. ap (λ n. 1 + (n - 1) / per_page) same;
    }

-- the same of a lent pair
pub greatest : (list seen : List TextPair) (got : Option PairRef) (pair : PairRef) (number : ℕ) → seen ≡ list
    → option_map pair_seen got ≡ slice_get seen (length seen - 1) → got ≡ Some pair → number ≡ number_of (key_seen pair.key)
    → AscendFrom 1 (unlined_pairs list) → IsGreatest list number
greatest list seen got pair number seen_is last is number_is ascend =
    last_greatest list (pair_seen pair) number
    (subst (λ ps. Some (pair_seen pair) ≡ slice_get ps (length ps - 1)) seen_is (sym (ap (option_map pair_seen) is) ∙ last)) number_is ascend
