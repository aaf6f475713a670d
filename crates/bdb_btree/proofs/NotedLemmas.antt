-- What is noted, one fault after another, and which faults these are.
use Rattle.std.proofs.Common.{◌≡◌, ℕ, Bool, true, false, List, [], ◌∷◌, ◌++◌, refl, ◌∙◌, ap, subst, arith, ◌==◌, ◌&&◌, ◌||◌}
use Rattle.std.specs.List.{Contains, flat_map, list_any}
use Rattle.std.proofs.lemmas.Bool.{and_parts, eqb-true, eq-eqb}
use Rattle.std.proofs.lemmas.Bool.Decides.{nat_tests}
use Rattle.std.proofs.lemmas.List.Folds.{list_any-append}
use Rattle.bdb_ranks.specs.of_format.Terms.{contents_row_code, fault_if}
use Rattle.bdb_ranks.specs.of_format.declared.rows.ContentsRow.{ContentsRow}
use Rattle.bdb_ranks.specs.of_format.declared.rows.Row.TheVariants.{Contents}
use Rattle.bdb_ranks.proofs.of_format.FaultLemmas.{same_parts}
use Rattle.bdb_ranks.specs.of_format.declared.kinds.Fault.{Fault}
use Rattle.bdb_ranks.proofs.of_format.ListLemmas.{any_member, passes_here}

-- Notes one after another.

-- Which faults there are, as a test.

abbrev pub is_fault : Fault → Fault → Bool
is_fault fault other = (other.stage == fault.stage) && ((other.page == fault.page) && (other.code == fault.code))

abbrev pub has : List Fault → Fault → Bool
has faults fault = list_any (is_fault fault) faults

is_itself : (fault : Fault) → is_fault fault fault ≡ true
is_itself fault = rw (eq-eqb fault.stage fault.stage refl, eq-eqb fault.page fault.page refl, eq-eqb fault.code fault.code refl) refl

same_fault : (fault other : Fault) → is_fault fault other ≡ true → other ≡ fault
same_fault fault other is = grind (arith, and_parts, same_parts, eqb-true)

pub in_has : (faults : List Fault) (fault : Fault) → Contains faults fault → has faults fault ≡ true
in_has faults fault at = passes_here (is_fault fault) faults fault at (is_itself fault)

pub has_in : (faults : List Fault) (fault : Fault) → has faults fault ≡ true → Contains faults fault
has_in faults fault is =
    let found = any_member (is_fault fault) faults is in subst (Contains faults) (same_fault fault found.0 found.2) found.1

-- a fault is one of a row
abbrev pub is_of : ContentsRow → Fault → Bool
is_of row fault = (8 == fault.stage) && (contents_row_code row == fault.code)

one_has : (row : ContentsRow) (page : ℕ) (holds : Bool) (fault : Fault)
    → has (fault_if (Contents row) page holds) fault ≡ (is_of row fault && ((page == fault.page) && holds))
one_has row page true fault = grind (arith, nat_tests)
one_has row page false fault = grind (arith, nat_tests)

join : (s a b : Bool) → ((s && a) || (s && b)) ≡ (s && (a || b))
join true a b = refl
join false a b = refl

none_joined : (s : Bool) → false ≡ (s && false)
none_joined true = refl
none_joined false = refl

module _ {X : Type 0} (page : X → ℕ) where
  -- a test holds of something at the page of a fault
  abbrev pub some_at : (X → Bool) → List X → Fault → Bool
  some_at test xs fault = list_any (λ x. (page x == fault.page) && test x) xs

  pub row_has : (row : ContentsRow) (test : X → Bool) (xs : List X) (fault : Fault)
      → has (flat_map (λ x. fault_if (Contents row) (page x) (test x)) xs) fault ≡ (is_of row fault && some_at test xs fault)
  row_has row test [] fault = none_joined (is_of row fault)
  row_has row test (x ∷ xs) fault =
      list_any-append (is_fault fault) (fault_if (Contents row) (page x) (test x)) (flat_map (λ y. fault_if (Contents row) (page y) (test y)) xs)
      ∙ (ap (λ b. b || has (flat_map (λ y. fault_if (Contents row) (page y) (test y)) xs) fault) (one_has row (page x) (test x) fault)
      ∙ (ap (λ b. (is_of row fault && ((page x == fault.page) && test x)) || b) (row_has row test xs fault)
      ∙ join (is_of row fault) ((page x == fault.page) && test x) (some_at test xs fault)))

-- several lists, one after another at each of some

swap : (a b c d : Bool) → ((a || b) || (c || d)) ≡ ((a || c) || (b || d))
swap true b c d = refl
swap false true true d = refl
swap false true false d = refl
swap false false c d = refl

pub both_have : {X : Type 0} (f g : X → List Fault) (xs : List X) (fault : Fault)
    → has (flat_map (λ x. f x ++ g x) xs) fault ≡ (has (flat_map f xs) fault || has (flat_map g xs) fault)
both_have f g [] fault = refl
both_have f g (x ∷ xs) fault = grind (arith, list_any-append, swap, both_have f g xs fault)
