-- The last record of a list.
use Rattle.std.proofs.Common.{◌≡◌, ℕ, ◌+◌, ◌-◌, ◌<◌, List, [], ◌∷◌, length, get_or, Some, None, arith, refl, sym, ◌∙◌, ap, slice_get}
use Rattle.bdb_mkqueue.proofs.Common.{get_or-map, length-map, number_of, unlined, unlined_pairs, Pair, Key, first_number, next_number}
use Rattle.std.proofs.lemmas.Option.{get_or_from_slice_get, slice_get-get_or, slice_get_within}
use Rattle.bdb_text_format.specs.declared.pairs.TextPair.{TextPair}
use Rattle.bdb_mkqueue.proofs.StepLemmas.{no_pair, pair_at}

next_of : (x : Pair) (xs : List Pair) → next_number (number_of x.key + 1) xs ≡ number_of (pair_at (x ∷ xs) (length xs)).key + 1
next_of x [] = refl
next_of x (y ∷ ys) = next_of y ys

pub next_last : (list : List Pair) → 0 < length list → next_number 1 list ≡ number_of (pair_at list (length list - 1)).key + 1
next_last [] some = absurd (omega arith)
next_last (x ∷ xs) some = grind (arith, next_of, pair_at)

-- the pair at a place of pairs that are lent
pub pair_here : (pairs : List TextPair) (place : ℕ) (pair : TextPair) → slice_get pairs place ≡ Some pair → unlined pair ≡ pair_at (unlined_pairs pairs) place
pair_here pairs place pair at =
    sym (get_or-map unlined pairs place pair no_pair (slice_get_within pairs place pair at) ∙ ap unlined (get_or_from_slice_get pairs place pair pair at))

pub key_here : (pairs : List TextPair) (place number : ℕ) (pair : TextPair) → slice_get pairs place ≡ Some pair → number ≡ number_of pair.key
    → number ≡ number_of (pair_at (unlined_pairs pairs) place).key
key_here pairs place number pair at is = is ∙ ap (λ (pair : Pair). number_of pair.key) (pair_here pairs place pair at)

pub value_here : (pairs : List TextPair) (place : ℕ) (pair : TextPair) → slice_get pairs place ≡ Some pair
    → pair.value ≡ (pair_at (unlined_pairs pairs) place).value
value_here pairs place pair at = ap (λ (pair : Pair). pair.value) (pair_here pairs place pair at)

-- the last key
pub record IsLastOf (list : List Pair) (key : Key) : Type 0 where
  pub some : 0 < length list
  pub is : key ≡ (pair_at list (length list - 1)).key

pub last_key : (pairs : List TextPair) (pair : TextPair) → slice_get pairs (length pairs - 1) ≡ Some pair → IsLastOf (unlined_pairs pairs) pair.key
last_key pairs pair at = grind (arith, slice_get_within, length-map, pair_here, pair_at)

-- the number of the first record, and where there is none
pub first_is : (pairs : List TextPair) (pair : TextPair) → slice_get pairs 0 ≡ Some pair → number_of pair.key ≡ first_number (unlined_pairs pairs)
first_is [] pair at = absurd (let low = slice_get_within {A = TextPair} [] 0 pair at in omega (arith, low))
first_is (first ∷ pairs) pair at = ap (λ (pair : Pair). number_of pair.key) (pair_here (first ∷ pairs) 0 pair at)

pub none_first : (pairs : List TextPair) → slice_get pairs 0 ≡ None → 1 ≡ first_number (unlined_pairs pairs)
none_first [] none = refl
none_first (first ∷ pairs) none = absurd cc

pub none_last : (pairs : List TextPair) → slice_get pairs (length pairs - 1) ≡ None → 1 ≡ next_number 1 (unlined_pairs pairs)
none_last [] none = refl
none_last (first ∷ pairs) none =
    let there = slice_get-get_or (first ∷ pairs) (length (first ∷ pairs) - 1) first (omega arith) in
    let both : Some (get_or (first ∷ pairs) (length (first ∷ pairs) - 1) first) ≡ None = sym there ∙ none in
    absurd cc
