-- A page that names the one before it, and so on back to one that names 0, comes only once: the way back from a page is one.
use Rattle.std.proofs.Common.{◌≡◌, ℕ, ◌≤◌, Bool, true, List, [], ◌∷◌, length, arith, refl, sym, ◌∙◌, subst, inl, inr, ◌==◌, ◌&&◌, not, Contains}
use Rattle.std.proofs.lemmas.Bool.{and_parts, eqb-true, eqb-false, not-true}
use Rattle.bdb_law_sums.specs.of_format.Terms.{File, Page, header_in, next_of, page_at}
use Rattle.bdb_law_sums.proofs.of_format.MemberLemmas.{first_member, later_member, member_cases, no_member}
use Rattle.bdb_law_sums.specs.of_graph.Forest.{AllDistinct}
use Rattle.bdb_law_sums.proofs.of_graph.LeavesLemmas.{not_in}
use Rattle.bdb_survey.specs.RowLaw.{NoPageTwiceInARow}
use Rattle.bdb_survey.specs.Salvage.{follows, is_link}

abbrev previous_of : File → ℕ → ℕ
previous_of file p = (header_in (page_at file p)).previous

-- from a page, these are the pages back to one that names 0
abbrev LeadsBack : File → ℕ → List ℕ → Type 0
LeadsBack file p [] = p ≡ 0
LeadsBack file p (d ∷ ds) = (d ≡ p) × (p ≡ 0 → ⊥) × LeadsBack file (previous_of file p) ds

-- the way back is one
one_way : (file : File) (p : ℕ) (xs ys : List ℕ) → LeadsBack file p xs → LeadsBack file p ys → length xs ≡ length ys
one_way file p [] [] a b = refl
one_way file p [] (y ∷ ys) a b = absurd (b.1 a)
one_way file p (x ∷ xs) [] a b = absurd (a.1 b)
one_way file p (x ∷ xs) (y ∷ ys) a b = omega (arith, one_way file (previous_of file p) xs ys a.2 b.2)

-- a page on the way back has a way back of its own, no longer
from_there : (file : File) (p q : ℕ) (xs : List ℕ) → LeadsBack file p xs → Contains xs q
    → (ys : List ℕ) × LeadsBack file q ys × (length ys ≤ length xs)
from_there file p q [] back at = absurd (no_member [] q refl at)
from_there file p q (x ∷ xs) back at =
    elim (member_cases x xs q at) [
      | inl here ↦ (x ∷ xs, subst (λ n. LeadsBack file n (x ∷ xs)) (sym back.0 ∙ here) back, omega arith)
      | inr later ↦ let rest = from_there file (previous_of file p) q xs back.2 later in (rest.0, rest.1, omega (arith, rest.2))
    ]

-- a page isn't on its own way back
not_behind : (file : File) (before p : ℕ) (xs : List ℕ) → LeadsBack file before xs → previous_of file p ≡ before → (p ≡ 0 → ⊥) → Contains xs p → ⊥
not_behind file before p xs back names some at =
    let other = from_there file before p xs back at in
    let own : LeadsBack file p (p ∷ xs) = (refl, some, subst (λ n. LeadsBack file n xs) (sym names) back) in
    omega (arith, one_way file p other.0 (p ∷ xs) other.1 own, other.2)

-- what a link says
record Links (file : File) (before p : ℕ) : Type 0 where
  some : p ≡ 0 → ⊥
  back : previous_of file p ≡ before

links : (file : File) (test : Page → Bool) (before p : ℕ) → is_link file test before p ≡ true → Links file before p
links file test before p is =
    let both = and_parts (not (p == 0) && test (page_at file p)) (previous_of file p == before) is in
    let first = and_parts (not (p == 0)) (test (page_at file p)) both.0 in
    record { some = eqb-false p 0 (not-true (p == 0) first.0); back = eqb-true (previous_of file p) before both.1 }

first_follows : (file : File) (test : Page → Bool) (before p : ℕ) (ps : List ℕ) → follows file test before (p ∷ ps) ≡ true → Links file before p
first_follows file test before p [] is = links file test before p (and_parts (is_link file test before p) (next_of file p == 0) is).0
first_follows file test before p (q ∷ ps) is = links file test before p (and_parts (is_link file test before p) (follows file test p (q ∷ ps)) is).0

-- pages that follow are distinct, and none of those behind
distinct_from : (file : File) (test : Page → Bool) (before : ℕ) (behind ps : List ℕ) → LeadsBack file before behind
    → follows file test before ps ≡ true
    → AllDistinct ps × ((q : ℕ) → Contains ps q → Contains behind q → ⊥)
distinct_from file test before behind [] back is = absurd cc
distinct_from file test before behind (p ∷ []) back is =
    let link : Links file before p = first_follows file test before p [] is in (
      (tt, tt),
      λ q at seen. elim (member_cases p [] q at) [
        | inl here ↦ not_behind file before p behind back link.back link.some (subst (Contains behind) (sym here) seen)
        | inr later ↦ no_member [] q refl later
      ],
    )
distinct_from file test before behind (p ∷ (r ∷ ps)) back is =
    let link : Links file before p = first_follows file test before p (r ∷ ps) is in
    let after : LeadsBack file p (p ∷ behind) = (refl, link.some, subst (λ n. LeadsBack file n behind) (sym link.back) back) in
    let rest = distinct_from file test p (p ∷ behind) (r ∷ ps) after (and_parts (is_link file test before p) (follows file test p (r ∷ ps)) is).1 in (
      (not_in p (r ∷ ps) (λ at. rest.1 p at (first_member p behind)), rest.0),
      λ q at seen. elim (member_cases p (r ∷ ps) q at) [
        | inl here ↦ not_behind file before p behind back link.back link.some (subst (Contains behind) (sym here) seen)
        | inr later ↦ rest.1 q later (later_member p behind q seen)
      ],
    )

pub no_page_twice_in_a_row : NoPageTwiceInARow
no_page_twice_in_a_row file test ps is = (distinct_from file test 0 [] ps refl is).0
