-- Members of a list in the order of their pages and codes, and without repeats.
use Rattle.std.proofs.Common.{◌≡◌, ◌⊎◌, ℕ, suc, ◌+◌, ◌<◌, Bool, true, false, cond, List, [], ◌∷◌, map, get_or, arith, refl, sym, ◌∙◌, ap, subst, inl, inr}
use Rattle.std.specs.Prelude.{◌==◌, ◌&&◌, ◌||◌, nat_lt}
use Rattle.std.specs.Cmp.{IsEquivalence, IsStrictWeakOrder}
use Rattle.std.specs.List.{Contains, dedup, dedup_from}
use Rattle.std.specs.List.Sorted.{IsPermutation, IsSortedBy}
use Rattle.std.proofs.lemmas.Bool.Decides.{nat_tests}
use Rattle.std.proofs.lemmas.List.Kept.{Any-dedup, Contains-from_dedup}
use Rattle.std.proofs.lemmas.List.Sorted.{Contains-permutation, IsPermutation-sym}
use Rattle.bdb_format.proofs.MemberLemmas.{member_cases, no_member, of_map, in_map}
use Rattle.bdb_format.specs.declared.kinds.Fault.{Fault}
use Rattle.bdb_format.specs.Terms.{fault_seen, row_code}
use Rattle.bdb_format.specs.declared.named.Named.{Named}
use Rattle.bdb_faults.specs.Members.{is_before, is_same}
use Rattle.bdb_faults.specs.Notes.{AreOne, Ascends, ComesBefore}

abbrev code_in : Named → ℕ
code_in named = row_code named.row

-- By tests on numbers.

one_way : (p q c d : ℕ) → (nat_lt p q || (p == q && nat_lt c d)) ≡ true → (nat_lt q p || (q == p && nat_lt d c)) ≡ false
one_way p q c d is = grind (arith, nat_tests)

chain : (p q r c d e : ℕ) → (nat_lt p q || (p == q && nat_lt c d)) ≡ false → (nat_lt q r || (q == r && nat_lt d e)) ≡ false
    → (nat_lt p r || (p == r && nat_lt c e)) ≡ false
chain p q r c d e first second = grind (arith, nat_tests)

same_way : (p q c d : ℕ) → (p == q && c == d) ≡ (q == p && d == c)
same_way p q c d = grind (arith, nat_tests)

same_parts : (p q c d : ℕ) → (p == q && c == d) ≡ true → (p ≡ q) × (c ≡ d)
same_parts p q c d is = (grind (arith, nat_tests), grind (arith, nat_tests))

same_from : (p q c d : ℕ) → p ≡ q → c ≡ d → (p == q && c == d) ≡ true
same_from p q c d pages codes = grind (arith, nat_tests)

same_through : (p q r c d e : ℕ) → (p == q && c == d) ≡ true → (p == r && c == e) ≡ (q == r && d == e)
same_through p q r c d e same =
    let parts = same_parts p q c d same in ap (λ n. n == r && c == e) parts.0 ∙ ap (λ n. q == r && n == e) parts.1

-- one that isn't before another and isn't at its place comes after it
after : (p q c d : ℕ) → (nat_lt p q || (p == q && nat_lt c d)) ≡ false → (p == q && c == d) ≡ false → (q < p) ⊎ ((q ≡ p) × (d < c))
after p q c d not_before apart = grind (arith, nat_tests)

-- On members.

pub before_weakly : IsStrictWeakOrder is_before
before_weakly = grind (arith, one_way, chain)

same_equivalence : IsEquivalence is_same
same_equivalence = grind (arith, same_from, same_way, same_through)

comes_after : (a b : Named) → is_before b a ≡ false → is_same b a ≡ false → ComesBefore (fault_seen a) (fault_seen b)
comes_after a b not_before apart =
    after b.page a.page (code_in b) (code_in a) not_before apart

through : (a b c : Fault) → ComesBefore a b → ComesBefore b c → ComesBefore a c
through a b c first second = grind arith

-- A sorted list.

abbrev Rises : Named → List Named → Type 0
Rises last [] = Unit {0}
Rises last (member ∷ members) = (is_before member last ≡ false) × Rises member members

sorted_rest : (x : Named) (xs : List Named) → IsSortedBy is_before (x ∷ xs) → IsSortedBy is_before xs
sorted_rest x xs sorted k d low high =
    let e : suc k + 1 ≡ suc (k + 1) = omega arith in
    subst (λ n. is_before (get_or (x ∷ xs) n d) (get_or xs k d) ≡ false) e (sorted (suc k) d (omega arith) (omega arith))

rises_from : (last : Named) (rest : List Named) → IsSortedBy is_before (last ∷ rest) → Rises last rest
rises_from last [] sorted = tt
rises_from last (x ∷ rest) sorted =
    (sorted 0 x (omega arith) (omega arith), rises_from x rest (sorted_rest last (x ∷ rest) sorted))

-- where the first one goes as a repeat
rises_past : (last x : Named) (xs : List Named) → is_before x last ≡ false → Rises x xs → Rises last xs
rises_past last x [] not_before rises = tt
rises_past last x (y ∷ ys) not_before rises = (before_weakly.chain y x last rises.0 not_before, rises.1)

-- What is left without repeats.

record FromOn (last : Named) (left : List Named) : Type 0 where
  up : Ascends (map fault_seen left)
  from_on : (other : Fault) → Contains (map fault_seen left) other → (fault_seen last ≡ other) ⊎ ComesBefore (fault_seen last) other

later_on : (last x : Named) (other : Fault) → ComesBefore (fault_seen last) (fault_seen x)
    → (fault_seen x ≡ other) ⊎ ComesBefore (fault_seen x) other → ComesBefore (fault_seen last) other
later_on last x other before (inl same) = subst (ComesBefore (fault_seen last)) same before
later_on last x other before (inr comes) = through (fault_seen last) (fault_seen x) other before comes

one_more : (last x : Named) (left : List Named) → ComesBefore (fault_seen last) (fault_seen x) → FromOn x left → FromOn last (last ∷ left)
one_more last x left before is = record {
  up = (λ other at. later_on last x other before (is.from_on other at), is.up);
  from_on = λ other at.
      elim (member_cases (fault_seen last) (map fault_seen left) other at) [
        | inl same ↦ inl same
        | inr later ↦ inr (later_on last x other before (is.from_on other later))
      ];
}

next : (last x : Named) (b : Bool) (dropped kept : List Named) → is_same x last ≡ b → is_before x last ≡ false → FromOn last dropped
    → FromOn x kept → FromOn last (cond b dropped (last ∷ kept))
next last x true dropped kept is not_before without with_it = without
next last x false dropped kept is not_before without with_it = one_more last x kept (comes_after last x not_before is) with_it

left_from : (last : Named) (xs : List Named) → Rises last xs → FromOn last (dedup_from is_same last xs)
left_from last [] rises = grind (arith, no_member, member_cases)
left_from last (x ∷ xs) rises =
    next last x (is_same x last) (dedup_from is_same last xs) (dedup_from is_same x xs) refl rises.0
    (left_from last xs (rises_past last x xs rises.0 rises.1)) (left_from x xs rises.1)

pub left_ascends : (sorted : List Named) → IsSortedBy is_before sorted → Ascends (map fault_seen (dedup is_same sorted))
left_ascends [] sorted = tt
left_ascends (x ∷ xs) sorted = (left_from x xs (rises_from x xs sorted)).up

-- what is left are members of the list
pub left_of : (old sorted : List Named) (fault : Fault) → IsPermutation old sorted
    → Contains (map fault_seen (dedup is_same sorted)) fault → Contains (map fault_seen old) fault
left_of old sorted fault moved at =
    let found = of_map fault_seen (dedup is_same sorted) fault at in
    let there = Contains-permutation sorted old found.0 (IsPermutation-sym old sorted moved) (Contains-from_dedup is_same sorted found.0 found.1) in
    subst (Contains (map fault_seen old)) found.2 (in_map fault_seen old found.0 there)

same_seen : (old : List Named) (x y : Named) → AreOne (map fault_seen old) → Contains old x → Contains old y → is_same x y ≡ true
    → fault_seen x ≡ fault_seen y
same_seen old x y one at_x at_y is =
    let parts = same_parts x.page y.page (code_in x) (code_in y) is in
    one (fault_seen x) (fault_seen y) (in_map fault_seen old x at_x) (in_map fault_seen old y at_y)
    parts.0 parts.1

-- and each member is left, where no two of one place differ
pub is_left : (old sorted : List Named) (fault : Fault) → IsPermutation old sorted → AreOne (map fault_seen old)
    → Contains (map fault_seen old) fault → Contains (map fault_seen (dedup is_same sorted)) fault
is_left old sorted fault moved one at =
    let found = of_map fault_seen old fault at in
    let kept = Any-dedup same_equivalence sorted found.0 (Contains-permutation old sorted found.0 moved found.1) in
    let here : Contains (dedup is_same sorted) kept.1 = (kept.0, kept.2, kept.3) in
    let back = Contains-permutation sorted old kept.1 (IsPermutation-sym old sorted moved) (Contains-from_dedup is_same sorted kept.1 here) in
    subst (Contains (map fault_seen (dedup is_same sorted))) (sym (same_seen old found.0 kept.1 one found.1 back kept.4) ∙ found.2)
    (in_map fault_seen (dedup is_same sorted) kept.1 here)
