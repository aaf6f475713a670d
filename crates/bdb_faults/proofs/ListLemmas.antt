-- The list of all that was noted, once it's settled.
use Rattle.std.proofs.Common.{◌≡◌, ◌↔◌, ◌<◌, length, List, [], ◌∷◌, arith, refl, sym, ◌∙◌, ap, subst, inl, inr, ◌==◌, Bool, true, false, Contains}
use Rattle.bdb_format.specs.declared.kinds.Fault.{Fault}
use Rattle.bdb_format.proofs.MemberLemmas.{first_member, later_member, member_cases, no_member}
use Rattle.bdb_faults.specs.Notes.{AreOne, AreSame, Ascends, ComesBefore, HasJust, HasNoted}
use Rattle.bdb_faults.proofs.SinkLemmas.{none_same}

-- two that come before each other don't exist
not_both : (a b : Fault) → ComesBefore a b → ComesBefore b a → ⊥
not_both a b ab ba = grind arith

not_itself : (a : Fault) → ComesBefore a a → ⊥
not_itself a is = not_both a a is is

-- Two lists that ascend and have the same members are one.

-- the first of both is the same
first_same : (a b : Fault) (ls rs : List Fault) → Ascends (a ∷ ls) → Ascends (b ∷ rs) → AreSame (a ∷ ls) (b ∷ rs) → a ≡ b
first_same a b ls rs up_a up_b same =
    elim (member_cases b rs a ((same a).0 (first_member a ls))) [
      | inl is ↦ sym is
      | inr later ↦
          elim (member_cases a ls b ((same b).1 (first_member b rs)))
          [ inl is ↦ is | inr after ↦ absurd (not_both a b (up_a.0 b after) (up_b.0 a later)) ]
    ]

-- and so are the later ones
later_of : (a b other : Fault) (ls rs : List Fault) → Ascends (a ∷ ls) → a ≡ b → Contains ls other → Contains (b ∷ rs) other → Contains rs other
later_of a b other ls rs up is at there =
    elim (member_cases b rs other there) [
      | inl here ↦ absurd (not_itself other (subst (λ (j : Fault). ComesBefore j other) (is ∙ here) (up.0 other at)))
      | inr later ↦
          later
    ]

pub same_list : (ls rs : List Fault) → Ascends ls → Ascends rs → AreSame ls rs → ls ≡ rs
same_list [] [] up_a up_b same = refl
same_list [] (b ∷ rs) up_a up_b same = absurd (no_member [] b refl ((same b).1 (first_member b rs)))
same_list (a ∷ ls) [] up_a up_b same = absurd (no_member [] a refl ((same a).0 (first_member a ls)))
same_list (a ∷ ls) (b ∷ rs) up_a up_b same =
    let is = first_same a b ls rs up_a up_b same in
    let rest : AreSame ls rs = λ other. (
      λ at. later_of a b other ls rs up_a is at ((same other).0 (later_member a ls other at)),
      λ at. later_of b a other rs ls up_b (sym is) at ((same other).1 (later_member b rs other at)),
    )
    in
    ap (λ j. j ∷ ls) is ∙ ap (λ js. b ∷ js) (same_list ls rs up_a.1 up_b.1 rest)

-- What was noted.

-- of a list that ascends no two members of one place differ
one_of : (all : List Fault) (a b : Fault) → Ascends all → Contains all a → Contains all b → a.page ≡ b.page → a.code ≡ b.code → a ≡ b
one_of [] a b up at_a at_b pages codes = absurd (no_member [] a refl at_a)
one_of (j ∷ js) a b up at_a at_b pages codes =
    elim (member_cases j js a at_a) [
      | inl is_a ↦ elim (member_cases j js b at_b) [
        | inl is_b ↦ sym is_a ∙ is_b
        | inr later ↦ absurd (apart a b (subst (λ (k : Fault). ComesBefore k b) is_a (up.0 b later)) pages codes)
      ]
      | inr later_a ↦ elim (member_cases j js b at_b) [
        | inl is_b ↦ absurd (apart b a (subst (λ (k : Fault). ComesBefore k a) is_b (up.0 a later_a)) (sym pages) (sym codes))
        | inr later_b ↦ one_of js a b up.1 later_a later_b pages codes
      ]
    ]
  where
    apart : (x y : Fault) → ComesBefore x y → x.page ≡ y.page → x.code ≡ y.code → ⊥
    apart x y comes same_page same_code = grind arith

-- nor of what has the same members
are_one : (faults noted : List Fault) → Ascends faults → AreSame noted faults → AreOne noted
are_one faults noted up same a b at_a at_b = one_of faults a b up ((same a).0 at_a) ((same b).0 at_b)

-- what `settle` leaves of a list that has just the faults of a list that ascends is that list
pub list_is : (faults list after : List Fault) → Ascends faults → HasJust (HasNoted list) faults
    → (AreOne list → AreSame after list) → Ascends after → after ≡ faults
list_is faults list after up has settled ascends =
    let same : AreSame list faults = subst (λ noted. AreSame noted faults) (sym has.1) has.2 in
    let kept = settled (are_one faults list up same) in
    same_list after faults ascends up
    (λ fault. (λ at. (same fault).0 ((kept fault).0 at), λ at. (kept fault).1 ((same fault).1 at)))

-- a test for nothing noted tells whether they are none
pub list_empty : (faults noted : List Fault) (empty : Bool) → AreSame noted faults → empty ≡ (length noted == 0) → empty ≡ true → faults ≡ []
list_empty faults [] empty same tells is = none_same [] faults same refl
list_empty faults (fault ∷ noted) empty same tells is = absurd (grind arith)

pub list_some : (faults noted : List Fault) (empty : Bool) → AreSame noted faults → empty ≡ (length noted == 0) → empty ≡ false → 0 < length faults
list_some [] noted empty same tells is =
    let none : noted ≡ [] = none_same [] noted (λ fault. ((same fault).1, (same fault).0)) refl in
    absurd (some_none noted empty none tells is)
  where
    some_none : (noted : List Fault) (empty : Bool) → noted ≡ [] → empty ≡ (length noted == 0) → empty ≡ false → ⊥
    some_none [] empty none tells is = absurd cc
    some_none (fault ∷ noted) empty none tells is = absurd cc
list_some (fault ∷ faults) noted empty same tells is = omega arith
