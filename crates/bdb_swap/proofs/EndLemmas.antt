-- The ends of ranges at their places.
use Rattle.std.proofs.Common.{◌≡◌, ◌∙◌, ℕ, ◌+◌, ◌<◌, ◌≤◌, Bool, true, false, cond, List, [], ◌∷◌, ◌++◌, length, get_or, set, refl, sym, ap, arith, ◌==◌}
use Rattle.std.proofs.Common.{slice_index, Option, Some, None, option_map, unwrap_or}
use Rattle.std.specs.List.{Contains, find, list_any, range_with_len}
use Rattle.std.proofs.lemmas.Bool.{eqb-false, eqb-true}
use Rattle.std.proofs.lemmas.List.{get_or-set_other, get_or-set_same, length-set}
use Rattle.bdb_io.proofs.of_format.ListLemmas.{range_zero_more}
use Rattle.bdb_io.proofs.of_format.MemberLemmas.{of_range}
use Rattle.bdb_io.proofs.of_format.PageLemmas.{index_offset, length_items}
use Rattle.bdb_io.specs.of_format.declared.kinds.Order.{Order}
use Rattle.bdb_io.specs.of_format.Terms.{entries_of, listed, offset_of}
use Rattle.bdb_swap.specs.Crossing.{AreEnds, AreRanges, end_at, some_share}
use Rattle.bdb_law_turned.specs.Overlaps.{listed_overlap, share_bytes}
use Rattle.bdb_law_turned.specs.of_form.Ends.{ArePlaced}
use Rattle.bdb_swap.proofs.CrossLemmas.{found_in}
use Rattle.bdb_law_turned.proofs.ListedLemmas.{any_same, item_in}

abbrev otherwise : Option ℕ → Option ℕ → Option ℕ
otherwise None other = other
otherwise (Some i) other = Some i

found_more : (test : ℕ → Bool) (xs : List ℕ) (x : ℕ) → find test (xs ++ x ∷ []) ≡ otherwise (find test xs) (cond (test x) (Some x) None)
found_more test [] x = refl
found_more test (y ∷ ys) x =
    elim (test y) as (λ b. cond b (Some y) (find test (ys ++ x ∷ [])) ≡ otherwise (cond b (Some y) (find test ys)) (cond (test x) (Some x) None)) [
      | true ↦ refl
      | false ↦ found_more test ys x
    ]

-- one more range
pub ends_more : (n : ℕ) (begin end : ℕ → ℕ) (k : ℕ) → ((i : ℕ) → i < n → begin i ≡ begin n → end i ≡ end n)
    → end_at (n + 1) begin end k ≡ cond (begin n == k) (end n) (end_at n begin end k)
ends_more n begin end k one =
    let test : ℕ → Bool = λ i. begin i == k in
    ap (λ xs. unwrap_or (option_map end (find test xs)) 0) (range_zero_more n)
    ∙ (ap (λ found. unwrap_or (option_map end found) 0) (found_more test (range_with_len 0 n) n)
    ∙ by (find test (range_with_len 0 n)) refl)
  where
    by : (found : Option ℕ) → find (λ i. begin i == k) (range_with_len 0 n) ≡ found
        → unwrap_or (option_map end (otherwise found (cond (begin n == k) (Some n) None))) 0 ≡ cond (begin n == k) (end n) (unwrap_or (option_map end found) 0)
    by None is =
        elim (begin n == k) as (λ b. unwrap_or (option_map end (cond b (Some n) None)) 0 ≡ cond b (end n) 0) [
          | true ↦ refl
          | false ↦ refl
        ]
    by (Some i) is =
        let at : Contains (range_with_len 0 n) i × ((begin i == k) ≡ true) = found_in (λ j. begin j == k) (range_with_len 0 n) i is in
        let low : (0 ≤ i) × (i < 0 + n) = of_range 0 n i at.0 in
        elim (begin n == k) as (λ b. (begin n == k) ≡ b → end i ≡ cond b (end n) (end i)) [
          | true ↦ λ here. one i (omega arith) (eqb-true (begin i) k at.1 ∙ sym (eqb-true (begin n) k here))
          | false ↦ λ here. refl
        ] refl

set_there : (xs : List ℕ) (at x k : ℕ) → k < length xs → get_or (set xs at x) k 0 ≡ cond (at == k) x (get_or xs k 0)
set_there xs at x k lt =
    elim (at == k) as (λ b. (at == k) ≡ b → get_or (set xs at x) k 0 ≡ cond b x (get_or xs k 0)) [
      | true ↦ λ here. ap (λ (i : ℕ). get_or (set xs at x) i 0) (sym (eqb-true at k here)) ∙ get_or-set_same xs at x 0 (omega (arith, eqb-true at k here))
      | false ↦ λ other. get_or-set_other xs at k x 0 (λ same. eqb-false at k other (sym same))
    ] refl

pub ends_next : (ends more : List ℕ) (n at high : ℕ) (begin end : ℕ → ℕ) → AreEnds ends n begin end → more ≡ set ends at high → at ≡ begin n → high ≡ end n
    → ((i : ℕ) → i < n → begin i ≡ begin n → end i ≡ end n) → AreEnds more (n + 1) begin end
ends_next ends more n at high begin end are is at_is high_is one = λ k low.
    let inside : k < length ends = omega (arith, low, ap (λ (xs : List ℕ). length xs) is, length-set ends at high) in
    ap (λ xs. get_or xs k 0) is ∙ (set_there ends at high k inside)
    ∙ (ap (λ (a : ℕ). cond (a == k) high (get_or ends k 0)) at_is
    ∙ (ap (λ (h : ℕ). cond (begin n == k) h (get_or ends k 0)) high_is
    ∙ (ap (cond (begin n == k) (end n)) (are k inside)
    ∙ sym (ends_more n begin end k one))))

-- The overlaps of a page with an index.

-- the ranges of the items, by their ends, are those that the page's overlaps speak of
pub listed_shares : {I : Type 0} (item_end : ℕ → I → ℕ) (none : I) (order : Order) (page : List ℕ) (item_at : ℕ → I) (last : ℕ → ℕ)
    → ((i : ℕ) → i < entries_of order page → item_end (offset_of order page i) (item_at i) ≡ last i)
    → some_share (entries_of order page) (offset_of order page) last ≡ listed_overlap item_end none (listed order page item_at)
unfolding listed_overlap
listed_shares item_end none order page item_at last last_is =
    let p = listed order page item_at in
    let n : ℕ = entries_of order page in
    let items : length p.items ≡ n = length_items order page item_at in
    let begin : ℕ → ℕ = λ k. slice_index p.offsets k in
    let end : ℕ → ℕ = λ k. item_end (slice_index p.offsets k) (get_or p.items k none) in
    let first : ℕ → ℕ = offset_of order page in
    let begins : (k : ℕ) → k < n → first k ≡ begin k = λ k lt. sym (index_offset order page item_at k lt) in
    let ends_are : (k : ℕ) → k < n → last k ≡ end k =
    λ k lt. sym (rw (index_offset order page item_at k lt, item_in order page item_at none k lt) (last_is k lt)) in
    let below : (k : ℕ) → Contains (range_with_len 0 n) k → k < n =
    λ k at. let range : (0 ≤ k) × (k < 0 + n) = of_range 0 n k at in omega arith in
    any_same (λ i. list_any (λ j. share_bytes (first i) (last i) (first j) (last j)) (range_with_len 0 n))
    (λ i. list_any (λ j. share_bytes (begin i) (end i) (begin j) (end j)) (range_with_len 0 n)) (range_with_len 0 n)
    (λ i at_i. any_same (λ j. share_bytes (first i) (last i) (first j) (last j)) (λ j. share_bytes (begin i) (end i) (begin j) (end j))
    (range_with_len 0 n)
    (λ j at_j. all_same (first i) (begin i) (last i) (end i) (first j) (begin j) (last j) (end j)
    (begins i (below i at_i)) (ends_are i (below i at_i)) (begins j (below j at_j)) (ends_are j (below j at_j))))
    ∙ ap (λ m. list_any (λ i. list_any (λ j. share_bytes (begin i) (end i) (begin j) (end j)) (range_with_len 0 m)) (range_with_len 0 m)) (sym items)
  where
    all_same : (a b c d e f g h : ℕ) → a ≡ b → c ≡ d → e ≡ f → g ≡ h → share_bytes a c e g ≡ share_bytes b d f h
    all_same a b c d e f g h ab cd ef gh = rw (ab, cd, ef, gh) refl

-- The items of a page are ranges.
pub ranges_of : (order : Order) (page : List ℕ) (least : ℕ) (end : ℕ → ℕ) → ArePlaced order page least end
    → AreRanges (entries_of order page) (length page) (offset_of order page) (λ i. end (offset_of order page i))
ranges_of order page least end placed = record {
  some = λ i lt. (placed i lt).some;
  within = λ i lt. (placed i lt).within;
  one = λ i j lt_i lt_j same. ap end same;
}
