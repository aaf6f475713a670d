-- The slots of a page, while a list grows.
use Rattle.std.proofs.Common.{◌≡◌, ℕ, zero, suc, ◌+◌, ◌-◌, ◌*◌, ◌<◌, ◌≤◌, true, false, List, [], ◌∷◌, ◌++◌, map, set, Some, None, arith, refl, sym, ◌∙◌, ap, inl, inr, is_some}
use Rattle.bdb_mkqueue.proofs.Common.{list_any, range_with_len, cases_lt, passes_here, Pair, AscendFrom, number_of, page_of_record, queue_size, record_of, slot_of, slots_of, next_number}
use Rattle.bdb_text_format.proofs.of_format.MemberLemmas.{in_map, in_range, none_pass, of_map, of_range}
use Rattle.bdb_law_join.proofs.of_pack.StandingLemmas.{map_same}
use Rattle.bdb_mkqueue.proofs.NumberLemmas.{page_here, page_rises, place_of, slot_low}
use Rattle.bdb_mkqueue.proofs.RecordLemmas.{last_there, next-append, next_low, none_past, record_last, record_more}

-- Ranges.

-- functions that are the same on a range but at one place
pub map_range_set : {X : Type 0} (f g : ℕ → X) (a n s : ℕ) (x : X) → s < n → g (a + s) ≡ x
    → ((r : ℕ) → a ≤ r → r < a + n → (r ≡ a + s → ⊥) → g r ≡ f r) → map g (range_with_len a n) ≡ set (map f (range_with_len a n)) s x
map_range_set f g a zero s x low here others = absurd (omega arith)
map_range_set f g a (suc n) zero x low here others = grind (arith, map_same, here)
map_range_set f g a (suc n) (suc s) x low here others =
    let at : a + 1 + s ≡ a + suc s = omega arith in
    let rest : map g (range_with_len (a + 1) n) ≡ set (map f (range_with_len (a + 1) n)) s x =
    map_range_set f g (a + 1) n s x (omega arith) (ap g at ∙ here)
    (λ r from to differs. others r (omega arith) (omega arith) (λ same. differs (omega (arith, same)))) in
    ap (λ y. y ∷ map g (range_with_len (a + 1) n)) (others a (omega arith) (omega arith) (λ same. omega arith)) ∙ ap (λ xs. f a ∷ xs) rest

-- The pages of a queue.

-- the record of a slot stands on its page
here : (k q r : ℕ) → 1 ≤ q → (q - 1) * k + 1 ≤ r → r < (q - 1) * k + 1 + k → page_of_record k r ≡ q
here k q r some low high = grind (arith, page_here)

pub size-append : (k : ℕ) (xs : List Pair) (y : Pair) → queue_size k (xs ++ (y ∷ [])) ≡ page_of_record k (number_of y.key)
size-append k [] y = let same : number_of y.key + 1 - 1 ≡ number_of y.key = omega arith in ap (page_of_record k) same
size-append k (x ∷ xs) y = grind (arith, next-append)

pub size_low : (k : ℕ) (xs : List Pair) (n : ℕ) → 1 ≤ k → next_number 1 xs ≤ n → queue_size k xs ≤ page_of_record k n
size_low k [] n some past = omega arith
size_low k (x ∷ xs) n some past = page_rises k (next_number 1 (x ∷ xs) - 1) n some (omega (arith, past))

-- the last page has a record
pub last_page : (k : ℕ) (xs : List Pair) → 1 ≤ k → AscendFrom 1 xs → 1 ≤ queue_size k xs → list_any is_some (slots_of xs k (queue_size k xs)) ≡ true
last_page k [] some is page = absurd (omega arith)
last_page k (x ∷ xs) some is page =
    let r : ℕ = next_number (number_of x.key + 1) xs - 1 in
    let after : number_of x.key + 1 ≤ next_number (number_of x.key + 1) xs = next_low (number_of x.key + 1) xs is.1 in
    let one : 1 ≤ r = omega (arith, after, is.0) in
    let at : (page_of_record k r - 1) * k + 1 + slot_of k r ≡ r = place_of k r one in
    let slot : slot_of k r < k = slot_low k r some in
    let first : ℕ = (page_of_record k r - 1) * k + 1 in
    passes_here is_some (slots_of (x ∷ xs) k (page_of_record k r)) (record_of (x ∷ xs) r)
    (in_map (record_of (x ∷ xs)) (range_with_len first k) r (in_range first k r (omega (arith, at)) (omega (arith, at, slot))))
    (last_there x xs)

-- no page behind it has one
pub past_size : (k : ℕ) (xs : List Pair) (r : ℕ) → 1 ≤ k → AscendFrom 1 xs → queue_size k xs < page_of_record k r → record_of xs r ≡ None
past_size k [] r some is past = refl
past_size k (x ∷ xs) r some is past =
    elim (cases_lt r (next_number 1 (x ∷ xs))) [
      | inl low ↦
          absurd (let rises : page_of_record k r ≤ page_of_record k (next_number 1 (x ∷ xs) - 1) =
          page_rises k r (next_number 1 (x ∷ xs) - 1) some (omega (arith, low)) in omega (arith, rises, past))
      | inr high ↦ none_past 1 (x ∷ xs) r is high
    ]

pub slots_empty : (k : ℕ) (xs : List Pair) (q : ℕ) → 1 ≤ k → AscendFrom 1 xs → 1 ≤ q → queue_size k xs < q
    → list_any is_some (slots_of xs k q) ≡ false
slots_empty k xs q some is one past =
    none_pass is_some (slots_of xs k q) (λ o at.
    let found = of_map (record_of xs) (range_with_len ((q - 1) * k + 1) k) o at in
    let within = of_range ((q - 1) * k + 1) k found.0 found.1 in
    let page : page_of_record k found.0 ≡ q = here k q found.0 one within.0 within.1 in
    ap is_some (sym found.2 ∙ past_size k xs found.0 some is (omega (arith, past, page))))

-- One more record.

pub slots_others : (k : ℕ) (xs : List Pair) (y : Pair) (q : ℕ) → 1 ≤ q → (page_of_record k (number_of y.key) ≡ q → ⊥)
    → slots_of (xs ++ (y ∷ [])) k q ≡ slots_of xs k q
slots_others k xs y q one differs = grind (arith, map_same, record_more, here)

pub slots_own : (k : ℕ) (xs : List Pair) (y : Pair) → 1 ≤ k → 1 ≤ number_of y.key → record_of xs (number_of y.key) ≡ None
    → slots_of (xs ++ (y ∷ [])) k (page_of_record k (number_of y.key))
    ≡ set (slots_of xs k (page_of_record k (number_of y.key))) (slot_of k (number_of y.key)) (Some y.value)
slots_own k xs y some one none = grind (arith, place_of, map_range_set, Some, slot_low, record_last, record_more)
