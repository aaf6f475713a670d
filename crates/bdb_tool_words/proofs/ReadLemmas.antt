-- The options and operands from a place on.
use Rattle.std.proofs.Common.{◌≡◌, ℕ, zero, suc, ◌+◌, Bool, true, false, Bor, List, [], ◌∷◌, drop, refl, subst, sym, ◌∙◌, ap, arith}
use Rattle.std.specs.Prelude.{IfSome, IsSomeAnd, Option, Some, None, is_some, option_copied, option_map, slice_get}
use Rattle.std.specs.Str.{bytes_eq}
use Rattle.bdb_tool_words.specs.Arguments.{Arguments, has_repeated, once, value_given, with_option}
use Rattle.bdb_tool_words.specs.ArgumentsSeen.{or_none}

-- The value of an option.

-- the value of an option is its value among those that are left
abbrev pub IsLeft : List ℕ → Option Arguments → Option Arguments → Type 0
IsLeft word all rest = IfSome all (λ it. IsSomeAnd rest (λ left. value_given word it.given ≡ value_given word left.given))

pub left_more : (word : List ℕ) (all rest : Option Arguments) (other value : List ℕ) → IsLeft word all (with_option other value rest)
    → bytes_eq other word ≡ false → IsLeft word all rest
left_more word None rest other value left differs = _
left_more word (Some it) None other value left differs = absurd left
left_more word (Some it) (Some more) other value left differs = left ∙ rw differs refl

pub left_found : (word : List ℕ) (all rest : Option Arguments) (other value : List ℕ) → IsLeft word all (with_option other value rest)
    → bytes_eq other word ≡ true → IfSome all (λ it. Some value ≡ value_given word it.given)
left_found word None rest other value left same = _
left_found word (Some it) None other value left same = absurd left
left_found word (Some it) (Some more) other value left same = sym (left ∙ rw same refl)

pub left_none : (word : List ℕ) (all : Option Arguments) → IsLeft word all None → IfSome all (λ it. None ≡ value_given word it.given)
left_none word None left = _
left_none word (Some it) left = absurd left

-- Repeated options.

abbrev pub operands_in : Option Arguments → Option (List (List ℕ))
operands_in all = option_map (λ (it : Arguments). it.operands) all

-- What was read.

once_by : (all : Arguments) (repeated : Bool) (it : Arguments) → has_repeated all.given ≡ repeated → once (Some all) ≡ Some it → Some all ≡ Some it
once_by all true it is read = let none : None ≡ Some it = rw is at read in cc
once_by all false it is read = rw is at read

pub once_is : (all : Option Arguments) (it : Arguments) → once all ≡ Some it → all ≡ Some it
once_is None it read = cc
once_is (Some all) it read = once_by all (has_repeated all.given) it refl read

pub all_read : (all : Option Arguments) (operands : List (List ℕ)) → Some operands ≡ operands_in all → all ≡ Some (or_none all)
all_read None operands is = cc
all_read (Some all) operands is = refl

pub none_read : (all : Option Arguments) → None ≡ operands_in all → None ≡ all
none_read None is = refl
none_read (Some all) is = cc

-- the value of an option among all that was read
pub value_read : (all : Option Arguments) (it : Arguments) (word : List ℕ) (value : Option (List ℕ)) → once all ≡ Some it
    → IfSome all (λ one. value ≡ value_given word one.given) → value ≡ value_given word it.given
value_read all it word value read found = subst (λ every. IfSome every (λ one. value ≡ value_given word one.given)) (once_is all it read) found

pub is_some-copied : (text : Option (Bor (List ℕ))) → is_some text ≡ is_some (option_copied text)
is_some-copied None = refl
is_some-copied (Some text) = refl

pub slice_get-drop : {X : Type 0} (xs : List X) (n i : ℕ) → slice_get (drop n xs) i ≡ slice_get xs (n + i)
slice_get-drop xs zero i = let same : i ≡ 0 + i = omega arith in ap (slice_get xs) same
slice_get-drop [] (suc n) i = refl
slice_get-drop (x ∷ xs) (suc n) i = let next : suc (n + i) ≡ suc n + i = omega arith in slice_get-drop xs n i ∙ ap (slice_get (x ∷ xs)) next
