-- Laws that several crates use.
use Rattle.std.proofs.Common.{◌≡◌, Bool, true, List, [], ◌∷◌, inl, inr, ◌∙◌, ap, ℕ, suc, ◌<◌, false, length, map, get_or, arith, refl, ◌+◌, subst, ◌++◌, zero}
use Rattle.std.specs.List.{Contains, list_any, enumerate_from, flat_map, All, slice_get, range_with_len, sum_by}
use Rattle.std.proofs.lemmas.Bool.{or_cases, or_from}
use Rattle.bdb_format.proofs.MemberLemmas.{first_member, later_member, member_cases, no_member}
use Rattle.std.proofs.lemmas.List.Folds.{list_any_at}
use Rattle.std.proofs.lemmas.Grind.{flat_map-append}
use Rattle.std.proofs.lemmas.List.{map-append}
use Rattle.std.proofs.lemmas.List.Sums.{sum_by-append, sum_by-cons}
use Rattle.std.specs.Prelude.{get_or, Some}
use Rattle.std.proofs.lemmas.List.Elements.{Contains-get_or}
use Rattle.std.proofs.lemmas.Option.{get_or_from_slice_get, slice_get_within}

-- a list with a member that passes a test has such a member
pub any_member : {X : Type 0} (test : X → Bool) (xs : List X) → list_any test xs ≡ true → (x : X) × Contains xs x × (test x ≡ true)
any_member test [] some = absurd cc
any_member test (x ∷ xs) some =
    elim (or_cases (test x) (list_any test xs) some) [
      | inl here ↦ (x, first_member x xs, here)
      | inr later ↦ let found = any_member test xs later in (found.0, later_member x xs found.0 found.1, found.2)
    ]

-- a member that passes a test
pub passes_here : {X : Type 0} (test : X → Bool) (xs : List X) (x : X) → Contains xs x → test x ≡ true → list_any test xs ≡ true
passes_here test xs x at passes = list_any_at test xs at.0 x at.1 (ap test at.2 ∙ passes)

-- no member passes a test
pub none_of_list : {X : Type 0} (test : X → Bool) (d : X) (xs : List X) → ((k : ℕ) → k < length xs → test (get_or xs k d) ≡ false) → list_any test xs ≡ false
none_of_list test d [] none = refl
none_of_list test d (x ∷ xs) none = or_from (test x) (list_any test xs) (none 0 (omega arith)) (none_of_list test d xs (λ k lt. none (suc k) (omega arith)))

-- a member of a list has a place in it
pub in_enumerated : {X : Type 0} (n : ℕ) (xs : List X) (x : X) → Contains xs x → (i : ℕ) × Contains (enumerate_from n xs) (i, x)
in_enumerated n [] x at = absurd (no_member [] x refl at)
in_enumerated n (y ∷ ys) x at =
    elim (member_cases y ys x at) [
      | inl same ↦ (n, subst (λ z. Contains ((n, y) ∷ enumerate_from (n + 1) ys) (n, z)) same (first_member (n, y) (enumerate_from (n + 1) ys)))
      | inr later ↦ let rest = in_enumerated (n + 1) ys x later in (rest.0, later_member (n, y) (enumerate_from (n + 1) ys) (rest.0, x) rest.1)
    ]

pub flat_map_same : {X Y : Type 0} (f g : X → List Y) (xs : List X) → ((x : X) → Contains xs x → f x ≡ g x) → flat_map f xs ≡ flat_map g xs
flat_map_same f g [] same = refl
flat_map_same f g (x ∷ xs) same = grind (arith, first_member, later_member, flat_map_same f g xs (λ y at. same y (later_member x xs y at)))

-- a `flat_map` of a `flat_map` is one
pub flat_map_twice : {X Y Z : Type 0} (f : Y → List Z) (g : X → List Y) (xs : List X) → flat_map f (flat_map g xs) ≡ flat_map (λ x. flat_map f (g x)) xs
flat_map_twice f g [] = refl
flat_map_twice f g (x ∷ xs) = flat_map-append f (g x) (flat_map g xs) ∙ ap (λ zs. flat_map f (g x) ++ zs) (flat_map_twice f g xs)

-- a `map` of a `flat_map` is one `flat_map`
pub map_joined : {X Y Z : Type 0} (f : Y → Z) (g : X → List Y) (xs : List X) → map f (flat_map g xs) ≡ flat_map (λ x. map f (g x)) xs
map_joined f g [] = refl
map_joined f g (x ∷ xs) = map-append f (g x) (flat_map g xs) ∙ ap (λ zs. map f (g x) ++ zs) (map_joined f g xs)

-- a list of one has no other member
pub only_member : {X : Type 0} (x y : X) → Contains (x ∷ []) y → x ≡ y
only_member x y at = elim (member_cases x [] y at) [ inl same ↦ same | inr later ↦ absurd (no_member [] y refl later) ]

-- what holds of each member holds of all
pub all_of : {X : Type 0} (P : X → Type 0) (xs : List X) → ((x : X) → Contains xs x → P x) → All P xs
all_of P xs each k d below = each (get_or xs k d) (Contains-get_or xs k d below)

-- what stands at a place is a member
pub member_of : {X : Type 0} (xs : List X) (i : ℕ) (x : X) → slice_get xs i ≡ Some x → Contains xs x
member_of xs i x at = (i, slice_get_within xs i x at, get_or_from_slice_get xs i x x at)

-- answers that are one
pub one_answer : {A : Type 0} (a b : A) → Some a ≡ Some b → a ≡ b
one_answer a b is = cc

-- one number more at the end of a range
pub range_more : (a n : ℕ) → range_with_len a (n + 1) ≡ range_with_len a n ++ (a + n) ∷ []
range_more a zero = let e : a + 0 ≡ a = omega arith in rw e refl
range_more a (suc n) = let more : suc n + 1 ≡ suc (n + 1) = omega arith in let e : a + 1 + n
    ≡ a + suc n = omega arith in rw more (ap (λ xs. a ∷ xs) (range_more (a + 1) n ∙ ap (λ m. range_with_len (a + 1) n ++ m ∷ []) e))

-- and of one from 0 on
pub range_zero_more : (n : ℕ) → range_with_len 0 (n + 1) ≡ range_with_len 0 n ++ n ∷ []
range_zero_more n = let same : 0 + n ≡ n = omega arith in range_more 0 n ∙ ap (λ m. range_with_len 0 n ++ m ∷ []) same

-- a range, cut in two
pub range_parts : (a m n : ℕ) → range_with_len a (m + n) ≡ range_with_len a m ++ range_with_len (a + m) n
range_parts a zero n = let e : a ≡ a + 0 = omega arith in let f : 0 + n ≡ n = omega arith in ap (range_with_len a) f ∙ ap (λ b. range_with_len b n) e
range_parts a (suc m) n =
    let e : (a + 1) + m ≡ a + suc m = omega arith in
    let f : suc m + n ≡ suc (m + n) = omega arith in
    ap (range_with_len a) f ∙ ap (λ xs. a ∷ xs) (range_parts (a + 1) m n ∙ ap (λ b. range_with_len (a + 1) m ++ range_with_len b n) e)

-- the last term of a sum over a range
pub sum_last : (f : ℕ → ℕ) (n : ℕ) → sum_by f (range_with_len 0 (n + 1)) ≡ sum_by f (range_with_len 0 n) + f n
sum_last f n = omega (arith, ap (sum_by f) (range_zero_more n), sum_by-append f (range_with_len 0 n) (n ∷ []), sum_by-cons f n [])
