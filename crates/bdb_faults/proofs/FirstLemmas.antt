-- The first of some faults, and of one more.
use Rattle.std.proofs.Common.{◌≡◌, ◌⊎◌, ◌++◌, List, [], ◌∷◌, length, arith, refl, sym, ◌∙◌, ap, subst, inl, inr, ◌==◌, true, Option, Some, None, is_none, OnOk}
use Rattle.std.proofs.Common.{Result, Contains, option_map}
use Rattle.std.proofs.lemmas.Bool.{ne_eqb}
use Rattle.std.proofs.lemmas.List.Elements.{Contains-append_cases, Contains-append_left, Contains-append_right}
use Rattle.bdb_format.specs.Terms.{ComesFirst, as_verdict, first_fault, first_judgement, judgement_of}
use Rattle.bdb_format.specs.declared.kinds.Fault.{Fault}
use Rattle.bdb_format.proofs.MemberLemmas.{first_member, member_cases, no_member}
use Rattle.bdb_format.proofs.ListLemmas.{only_member}
use Rattle.bdb_format.proofs.FaultLemmas.{comes_itself, comes_through}
use Rattle.bdb_faults.specs.Refusals.{IsFirstRefusal, first_verdict, is_first_memory}
use Rattle.bdb_faults.specs.declared.refusals.FirstError.{FirstError}
use Rattle.bdb_faults.specs.declared.refusals.FirstError.TheVariants.{Fault as FirstFault, Memory as FirstMemory}
use Rattle.bdb_faults.specs.Notes.{AreSame, Ascends, ComesBefore, HasJust, IsFirst, IsFirstNoted, NotesAll}
use Rattle.bdb_faults.proofs.SinkLemmas.{all_noted, none_same}

of_one_more : (xs : List Fault) (x y : Fault) → Contains (xs ++ (x ∷ [])) y → Contains xs y ⊎ (x ≡ y)
of_one_more xs x y at =
    elim (Contains-append_cases xs (x ∷ []) y at) [ inl here ↦ inl here | inr last ↦ inr (only_member x y last) ]

-- one fault alone
pub first_alone : (faults : List Fault) (fault : Fault) → faults ≡ [] → IsFirstNoted (faults ++ (fault ∷ [])) fault
first_alone faults fault none = grind (arith, Contains-append_right, first_member, of_one_more, no_member, comes_itself)

-- one more that doesn't come before the first
pub first_kept : (faults : List Fault) (first fault : Fault) → IsFirstNoted faults first → ComesFirst first fault
    → IsFirstNoted (faults ++ (fault ∷ [])) first
first_kept faults first fault is comes =
    record {
      holds = Contains-append_left faults (fault ∷ []) first is.holds;
      first =
          λ other at. elim (of_one_more faults fault other at) [ inl here ↦ is.first other here | inr same ↦ subst (ComesFirst first) same comes ];
    }

-- one more that does
pub first_taken : (faults : List Fault) (first fault : Fault) → IsFirstNoted faults first → ComesFirst fault first
    → IsFirstNoted (faults ++ (fault ∷ [])) fault
first_taken faults first fault is comes =
    record {
      holds = Contains-append_right faults (fault ∷ []) fault (first_member fault []);
      first = λ other at.
          elim (of_one_more faults fault other at) [
            | inl here ↦ comes_through fault first other comes (is.first other here)
            | inr same ↦ subst (ComesFirst fault) same (comes_itself fault)
          ];
    }

-- nothing is noted exactly where there is no first
pub none_noted : (first : Option Fault) (faults : List Fault) → IsFirst first faults → is_none first ≡ (length faults == 0)
none_noted None faults is = ap (λ (fs : List Fault). length fs == 0) (sym is)
none_noted (Some fault) [] is = absurd (no_member [] fault refl is.holds)
none_noted (Some fault) (other ∷ faults) is = sym (ne_eqb (length (other ∷ faults)) 0 (λ e. absurd (omega (arith, e))))

-- the first of what was noted is the first of a list in order that has the same faults
pub first_is : (faults noted : List Fault) (first : Option Fault) → Ascends faults → AreSame noted faults → IsFirst first noted → first ≡ first_fault faults
first_is faults noted None up same is = ap first_fault (sym (none_same noted faults same is))
first_is [] noted (Some fault) up same is = absurd (no_member [] fault refl ((same fault).0 is.holds))
first_is (first ∷ faults) noted (Some fault) up same is =
    elim (member_cases first faults fault ((same fault).0 is.holds)) [
      | inl here ↦ ap (λ (f : Fault). Some f) (sym here)
      | inr later ↦ absurd (apart first fault (up.0 fault later) (is.first first ((same first).1 (first_member first faults))))
    ]
  where
    apart : (a b : Fault) → ComesBefore a b → ComesFirst b a → ⊥
    apart a b before first = grind arith

-- what a check noted is refused by its first, where there is one
pub first_accepted : (first : Option Fault) (faults : List Fault) → first ≡ None → HasJust (IsFirst first) faults → faults ≡ []
first_accepted first faults none has = none_same has.0 faults has.2 (subst (λ (o : Option Fault). IsFirst o has.0) none has.1)

pub first_refused : (first : Option Fault) (fault : Fault) (faults : List Fault) → first ≡ Some fault → Ascends faults → HasJust (IsFirst first) faults
    → first_fault faults ≡ Some fault
first_refused first fault faults some up has = sym (first_is faults has.0 first up has.2 has.1) ∙ some

-- What the refusal by the first is told as.

pub first_judged : (faults : List Fault) (error : FirstError) → IsFirstRefusal faults error → (is_first_memory error ≡ true → ⊥)
    → Some (first_verdict error) ≡ option_map as_verdict (first_judgement faults)
first_judged faults (FirstFault named) is room = ap (λ fault. option_map as_verdict (option_map judgement_of fault)) (sym is)
first_judged faults FirstMemory is room = absurd (room refl)

-- what a check noted over a new `First`
pub newly_noted : {T E : Type 0} (answer : Result T E) (new first : Option Fault) (faults : List Fault) → new ≡ None
    → OnOk answer (NotesAll (IsFirst new) (IsFirst first) faults) → OnOk answer (HasJust (IsFirst first) faults)
newly_noted answer new first faults begun all =
    all_noted answer (IsFirst new) (IsFirst first) faults (subst (λ (o : Option Fault). IsFirst o []) (sym begun) refl) all
