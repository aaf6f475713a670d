-- Rows of pages, put from behind, and gone over.
use Rattle.std.proofs.Common.{◌≡◌, ℕ, zero, suc, ◌+◌, ◌-◌, ◌<◌, ◌≤◌, Bool, true, false, cond, List, ◌∷◌, length, set, get_or, arith, refl, sym, ◌∙◌, ap}
use Rattle.std.proofs.Common.{subst, inl, inr}
use Rattle.std.proofs.Common.{Option, Some, None, true≢false}
use Rattle.std.specs.List.{All, filter, find, range_with_len}
use Rattle.std.proofs.lemmas.Bool.{cases_eq, eq-eqb, eqb-true, ne_eqb}
use Rattle.std.proofs.lemmas.List.{get_or-set_same, get_or-set_other, length-set}
use Rattle.std.proofs.lemmas.Option.{none-some, same_Some}
use Rattle.std.proofs.lemmas.List.Elements.{All-cons, All-nil}
use Rattle.bdb_apart.specs.Rows.{AreBelow, AreRows, IsAt, first_from, from_page, is_below, is_some_of, row_from, row_left}

-- the pages from one on are this one and those behind
pages_from : (above : List (Option ℕ)) (p : ℕ) → p < length above → from_page above p ≡ p ∷ from_page above (p + 1)
pages_from above p low =
    ap (range_with_len p) (let more : length above - p ≡ suc (length above - (p + 1)) = omega (arith, low) in more)

-- a page that is below is the first from it on
first_here : (above : List (Option ℕ)) (m p : ℕ) → p < length above → is_below above m p ≡ true → first_from above m p ≡ Some p
first_here above m p low is =
    ap (find (is_below above m)) (pages_from above p low)
    ∙ ap (λ b. cond b (Some p) (find (is_below above m) (from_page above (p + 1)))) is

first_later : (above : List (Option ℕ)) (m p : ℕ) → p < length above → is_below above m p ≡ false → first_from above m p ≡ first_from above m (p + 1)
first_later above m p low is =
    ap (find (is_below above m)) (pages_from above p low)
    ∙ ap (λ b. cond b (Some p) (find (is_below above m) (from_page above (p + 1)))) is

row_here : (above : List (Option ℕ)) (m p : ℕ) → p < length above → is_below above m p ≡ true → row_from above m p ≡ p ∷ row_from above m (p + 1)
row_here above m p low is =
    ap (filter (is_below above m)) (pages_from above p low)
    ∙ ap (λ b. cond b (p ∷ filter (is_below above m) (from_page above (p + 1))) (filter (is_below above m) (from_page above (p + 1)))) is

row_later : (above : List (Option ℕ)) (m p : ℕ) → p < length above → is_below above m p ≡ false → row_from above m p ≡ row_from above m (p + 1)
row_later above m p low is =
    ap (filter (is_below above m)) (pages_from above p low)
    ∙ ap (λ b. cond b (p ∷ filter (is_below above m) (from_page above (p + 1))) (filter (is_below above m) (from_page above (p + 1)))) is

-- what is left of a row from a page on is left from the first that is below
row_by : (above : List (Option ℕ)) (m p n : ℕ) → p + n ≡ length above → row_left above m (first_from above m p) ≡ row_from above m p
row_by above m p zero all =
    ap (λ k. row_left above m (find (is_below above m) (range_with_len p k))) none ∙ sym (ap (λ k. filter (is_below above m) (range_with_len p k)) none)
  where
    none : length above - p ≡ 0
    none = omega (arith, all)
row_by above m p (suc n) all = by_here (is_below above m p) refl (row_by above m (p + 1) n (omega (arith, all)))
  where
    low : p < length above
    low = omega (arith, all)

    by_here : (b : Bool) → is_below above m p ≡ b → row_left above m (first_from above m (p + 1)) ≡ row_from above m (p + 1)
        → row_left above m (first_from above m p) ≡ row_from above m p
    by_here true is rest = ap (row_left above m) (first_here above m p low is)
    by_here false is rest =
        ap (row_left above m) (first_later above m p low is)
        ∙ (rest ∙ sym (row_later above m p low is))

pub row_is : (above : List (Option ℕ)) (m p : ℕ) → p ≤ length above → row_left above m (first_from above m p) ≡ row_from above m p
row_is above m p low = row_by above m p (length above - p) (omega (arith, low))

-- the first one is there, and below
found_by : (above : List (Option ℕ)) (m p n q : ℕ) → p + n ≡ length above → first_from above m p ≡ Some q → (q < length above) × (is_below above m q ≡ true)
found_by above m p zero q all is =
    absurd (none-some q (sym (ap (λ k. find (is_below above m) (range_with_len p k)) (let none : length above - p ≡ 0 = omega (arith, all) in none)) ∙ is))
found_by above m p (suc n) q all is = by_here (is_below above m p) refl (λ later. found_by above m (p + 1) n q (omega (arith, all)) later)
  where
    low : p < length above
    low = omega (arith, all)

    by_here : (b : Bool) → is_below above m p ≡ b → (first_from above m (p + 1) ≡ Some q → (q < length above) × (is_below above m q ≡ true))
        → (q < length above) × (is_below above m q ≡ true)
    by_here true here rest =
        let same : p ≡ q = same_Some p q (sym (first_here above m p low here) ∙ is) in
        (subst (λ k. k < length above) same low, subst (λ k. is_below above m k ≡ true) same here)
    by_here false here rest = rest (sym (first_later above m p low here) ∙ is)

some_of : (m : ℕ) (at : Option ℕ) → is_some_of m at ≡ true → at ≡ Some m
some_of m None is = absurd (true≢false (sym is))
some_of m (Some n) is = ap Some (eqb-true n m is)

is_of : (m : ℕ) (at : Option ℕ) → at ≡ Some m → is_some_of m at ≡ true
is_of m at is = ap (is_some_of m) is ∙ eq-eqb m m refl

-- Going over a row.

-- where a row begins
pub row_at : (above first next : List (Option ℕ)) (m : ℕ) (at : Option ℕ) → AreRows above first next 0 → at ≡ first_from above m 0 → IsAt above next m at
row_at above first next m at are is = record {
  nexts = λ p here there. are.nexts p m (omega arith) here there;
  next_len = are.next_len;
  there = λ p so. (found_by above m 0 (length above) p (omega arith) (sym is ∙ so)).0;
  below = λ p so. some_of m (get_or above p None) (found_by above m 0 (length above) p (omega arith) (sym is ∙ so)).1;
}

-- the page behind one, and the row from there
pub at_next : (above next : List (Option ℕ)) (m p : ℕ) (at : Option ℕ) → at ≡ Some p → IsAt above next m at → IsAt above next m (get_or next p None)
at_next above next m p at is there =
    let low : p < length above = there.there p is in
    let leads : get_or next p None ≡ first_from above m (p + 1) = there.nexts p low (there.below p is) in
    record {
      nexts = there.nexts;
      next_len = there.next_len;
      there = λ q goes. (found_by above m (p + 1) (length above - (p + 1)) q (omega (arith, low)) (sym leads ∙ goes)).0;
      below = λ q goes. some_of m (get_or above q None) (found_by above m (p + 1) (length above - (p + 1)) q (omega (arith, low)) (sym leads ∙ goes)).1;
    }

pub row_next : (above next : List (Option ℕ)) (m p : ℕ) (at : Option ℕ) → at ≡ Some p → IsAt above next m at
    → row_left above m at ≡ p ∷ row_left above m (get_or next p None)
row_next above next m p at is there =
    let low : p < length above = there.there p is in
    ap (row_left above m) is
    ∙ (row_here above m p low (is_of m (get_or above p None) (there.below p is))
    ∙ ap (λ qs. p ∷ qs) (sym (ap (row_left above m) (there.nexts p low (there.below p is)) ∙ row_is above m (p + 1) (omega (arith, low)))))

-- Putting pages.

-- no page is put yet
pub none_put : (above first next : List (Option ℕ)) → length first ≡ length above → length next ≡ length above
    → ((m : ℕ) → m < length above → get_or first m None ≡ None) → AreRows above first next (length above)
none_put above first next first_len next_len none = record {
  first_len = first_len;
  next_len = next_len;
  within = omega arith;
  firsts = λ m low. none m low
      ∙ sym (ap (λ k. find (is_below above m) (range_with_len (length above) k)) (let past : length above - length above ≡ 0 = omega arith in past));
  nexts = λ p m from low is. absurd (omega (arith, from, low));
}

-- a page that is below another comes before those of its row
pub put_before : (above first next : List (Option ℕ)) (page m : ℕ) → get_or above page None ≡ Some m → m < length first → page < length next
    → AreRows above first next (page + 1) → AreRows above (set first m (Some page)) (set next page (get_or first m None)) page
put_before above first next page m is there low are =
    let inside : page < length above = omega (arith, low, are.next_len) in
    record {
      first_len = length-set first m (Some page) ∙ are.first_len;
      next_len = length-set next page (get_or first m None) ∙ are.next_len;
      within = omega (arith, inside);
      firsts = λ n here. elim (cases_eq n m) [
        | inl same ↦
            ap (λ k. get_or (set first m (Some page)) k None) same
            ∙ (get_or-set_same first m (Some page) None there
            ∙ sym (ap (λ k. first_from above k page) same ∙ first_here above m page inside (is_of m (get_or above page None) is)))
        | inr other ↦
            get_or-set_other first m n (Some page) None other
            ∙ (are.firsts n here
            ∙ sym (first_later above n page inside (ap (is_some_of n) is ∙ ne_eqb m n (λ same. other (sym same)))))
      ];
      nexts = λ p n from here below. elim (cases_eq p page) [
        | inl same ↦
            let one : n ≡ m = same_Some n m (sym below ∙ (ap (λ k. get_or above k None) same ∙ is)) in
            ap (λ k. get_or (set next page (get_or first m None)) k None) same
            ∙ (get_or-set_same next page (get_or first m None) None low
            ∙ (are.firsts m (omega (arith, there, are.first_len))
            ∙ (ap (λ k. first_from above k (page + 1)) (sym one) ∙ ap (λ k. first_from above n (k + 1)) (sym same))))
        | inr other ↦
            get_or-set_other next page p (get_or first m None) None other
            ∙ are.nexts p n (omega (arith, from, other)) here below
      ];
    }

-- a page that is below none is in no row
pub put_nowhere : (above first next : List (Option ℕ)) (page : ℕ) → get_or above page None ≡ None → page < length above → AreRows above first next (page + 1)
    → AreRows above first next page
put_nowhere above first next page is inside are = record {
  first_len = are.first_len;
  next_len = are.next_len;
  within = omega (arith, inside);
  firsts = λ m here. are.firsts m here ∙ sym (first_later above m page inside (ap (is_some_of m) is));
  nexts = λ p m from here below. elim (cases_eq p page) [
    | inl same ↦ absurd (none-some m (sym is ∙ (ap (λ k. get_or above k None) (sym same) ∙ below)))
    | inr other ↦ are.nexts p m (omega (arith, from, other)) here below
  ];
}

-- Rows that are gone over.

none_by : (above : List (Option ℕ)) (m p n : ℕ) → AreBelow above → length above ≤ m → find (is_below above m) (range_with_len p n) ≡ None
none_by above m p zero within past = refl
none_by above m p (suc n) within past =
    ap (λ b. cond b (Some p) (find (is_below above m) (range_with_len (p + 1) n))) (by_above (get_or above p None) refl)
    ∙ none_by above m (p + 1) n within past
  where
    by_above : (at : Option ℕ) → get_or above p None ≡ at → is_some_of m at ≡ false
    by_above None is = refl
    by_above (Some k) is = ne_eqb k m (λ same. let low : k < length above = within p k is in omega (arith, low, past, same))

-- no page is below one that isn't there
pub first_past : (above : List (Option ℕ)) (m : ℕ) → AreBelow above → length above ≤ m → first_from above m 0 ≡ None
first_past above m within past = none_by above m 0 (length above - 0) within past

there_by : (above : List (Option ℕ)) (m p n : ℕ) → p + n ≤ length above → All (λ q. q < length above) (filter (is_below above m) (range_with_len p n))
there_by above m p zero all = All-nil (λ q. q < length above)
there_by above m p (suc n) all = by_test (is_below above m p) (there_by above m (p + 1) n (omega (arith, all)))
  where
    others : List ℕ
    others = filter (is_below above m) (range_with_len (p + 1) n)

    by_test : (b : Bool) → All (λ q. q < length above) others → All (λ q. q < length above) (cond b (p ∷ others) others)
    by_test true rest = All-cons (λ q. q < length above) p others (omega (arith, all)) rest
    by_test false rest = rest

-- the pages of a row are there
pub row_there : (above : List (Option ℕ)) (m : ℕ) → All (λ q. q < length above) (row_from above m 0)
row_there above m = there_by above m 0 (length above - 0) (omega arith)

-- a page that one is below has a row
pub below_there : (above first next : List (Option ℕ)) (from p m : ℕ) → AreRows above first next from → AreBelow above → get_or above p None ≡ Some m
    → m < length first
below_there above first next from p m are within is = let low : m < length above = within p m is in omega (arith, low, are.first_len)
