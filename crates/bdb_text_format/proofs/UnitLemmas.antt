-- A text is read unit by unit.
use Rattle.std.proofs.Common.{◌≡◌, ℕ, zero, suc, ◌<◌, ◌≤◌, Bool, true, false, List, [], ◌∷◌, length, Option, Some, None, refl, ap, subst, ◌∙◌, arith}
use Rattle.std.specs.Prelude.{⊤}
use Rattle.bdb_text_format.specs.Terms.{before, bytes_spelled, digits_unit, escaped_unit, next_unit, units_read}

-- what stands behind a unit is shorter than the text
IsBehind : Option (ℕ × List ℕ) → List ℕ → Type 0
IsBehind None text = ⊤
IsBehind (Some unit) text = length unit.1 < length text

behind_more : (unit : Option (ℕ × List ℕ)) (byte : ℕ) (text : List ℕ) → IsBehind unit text → IsBehind unit (byte ∷ text)
unfolding IsBehind
behind_more None byte text behind = tt
behind_more (Some unit) byte text behind = omega arith

digits_behind : (text : List ℕ) → IsBehind (digits_unit text) text
unfolding IsBehind
digits_behind [] = tt
digits_behind (high ∷ []) = tt
digits_behind (high ∷ low ∷ text) = grind (arith, IsBehind, None, Some)

escaped_behind : (text : List ℕ) → IsBehind (escaped_unit text) text
unfolding IsBehind
escaped_behind [] = tt
escaped_behind (byte ∷ text) = grind (arith, IsBehind, Some, digits_behind)

unit_behind : (print : Bool) (text : List ℕ) → IsBehind (next_unit print text) text
unfolding IsBehind
unit_behind true [] = tt
unit_behind true (byte ∷ text) = grind (arith, IsBehind, Some, behind_more, escaped_behind)
unit_behind false text = digits_behind text

pub unit_shorter : (print : Bool) (text : List ℕ) (byte : ℕ) (rest : List ℕ) → next_unit print text ≡ Some (byte, rest) → length rest < length text
unfolding IsBehind
unit_shorter print text byte rest is = subst (λ unit. IsBehind unit text) is (unit_behind print text)

-- as many turns as a text has bytes are enough
enough : (print : Bool) (n m : ℕ) (text : List ℕ) → length text ≤ n → length text ≤ m → units_read print n text ≡ units_read print m text
unfolding IsBehind
enough print n m [] low high = refl
enough print zero m (byte ∷ text) low high = absurd (omega arith)
enough print (suc n) zero (byte ∷ text) low high = absurd (omega arith)
enough print (suc n) (suc m) (byte ∷ text) low high =
    elim (next_unit print (byte ∷ text)) as (λ unit. IsBehind unit (byte ∷ text)
    → elim unit as (λ _. Option (List ℕ)) [ None ↦ None | Some it ↦ before it.0 (units_read print n it.1) ]
    ≡ elim unit as (λ _. Option (List ℕ)) [ None ↦ None | Some it ↦ before it.0 (units_read print m it.1) ]) [
      | None ↦ λ _. refl
      | Some unit ↦ λ behind. ap (before unit.0) (enough print n m unit.1 (omega arith) (omega arith))
    ] (unit_behind print (byte ∷ text))

-- what a text spells, by its first unit
pub read_unit : (print : Bool) (text : List ℕ) (byte : ℕ) (rest : List ℕ) → next_unit print text ≡ Some (byte, rest)
    → bytes_spelled print text ≡ before byte (bytes_spelled print rest)
unfolding bytes_spelled
read_unit true [] byte rest is = absurd cc
read_unit false [] byte rest is = absurd cc
read_unit print (first ∷ text) byte rest is =
    let shorter = unit_shorter print (first ∷ text) byte rest is in
    ap (λ unit. elim unit as (λ _. Option (List ℕ)) [ None ↦ None | Some it ↦ before it.0 (units_read print (length text) it.1) ]) is
    ∙ ap (before byte) (enough print (length text) (length rest) rest (omega arith) (omega arith))

-- a text that doesn't begin with a unit is no spelling
pub read_no_unit : (print : Bool) (text : List ℕ) → 0 < length text → next_unit print text ≡ None → bytes_spelled print text ≡ None
unfolding bytes_spelled
read_no_unit print [] some none = absurd (omega arith)
read_no_unit print (first ∷ text) some none =
    ap (λ unit. elim unit as (λ _. Option (List ℕ)) [ None ↦ None | Some it ↦ before it.0 (units_read print (length text) it.1) ]) none

pub read_empty : (print : Bool) → bytes_spelled print [] ≡ Some []
unfolding bytes_spelled
read_empty print = refl
