-- Lists by their members.
use Rattle.std.proofs.Common.{◌≡◌, ℕ, suc, ◌<◌, List, [], ◌∷◌, length, get_or, map, Some, slice_get, arith, refl, ◌∙◌, ap, subst, Contains}
use Rattle.std.proofs.lemmas.Option.{slice_get-get_or}
use Rattle.bdb_tree.proofs.of_format.MemberLemmas.{of_map}

-- lists that show the same at each place are the same
pub same_list : {X : Type 0} (ys xs : List X) → length ys ≡ length xs → ((k : ℕ) → k < length xs → slice_get ys k ≡ slice_get xs k) → ys ≡ xs
same_list [] [] lengths same = refl
same_list [] (x ∷ xs) lengths same = absurd (omega arith)
same_list (y ∷ ys) [] lengths same = absurd (omega arith)
same_list (y ∷ ys) (x ∷ xs) lengths same =
    let first : Some y ≡ Some x = same 0 (omega arith) in
    let heads : y ≡ x = cc in
    let rest : ys ≡ xs = same_list ys xs (omega arith) (λ k lt. same (suc k) (omega arith)) in
    cc

-- what holds at each place holds of each member
pub each_member : {X : Type 0} (Holds : X → Type 0) (xs : List X) (x : X)
    → ((k : ℕ) → k < length xs → (y : X) → slice_get xs k ≡ Some y → Holds y) → Contains xs x → Holds x
each_member Holds xs x holds at =
    let lt : at.0 < length xs = at.1 in
    let is : get_or xs at.0 x ≡ x = at.2 in
    holds at.0 lt x (slice_get-get_or xs at.0 x lt ∙ ap Some is)

-- and what holds of what is told of the member at each place holds of each that is told
pub each_told : {X Y : Type 0} (Holds : Y → Type 0) (told : X → Y) (xs : List X) (y : Y)
    → ((k : ℕ) → k < length xs → (x : X) → slice_get xs k ≡ Some x → Holds (told x)) → Contains (map told xs) y → Holds y
each_told Holds told xs y holds at =
    let found = of_map told xs y at in
    subst Holds found.2 (each_member (λ x. Holds (told x)) xs found.0 holds found.1)
