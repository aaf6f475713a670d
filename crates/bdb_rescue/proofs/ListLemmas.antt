-- Lists that are made piece by piece.
use Rattle.std.proofs.Common.{◌≡◌, ℕ, suc, subst, ◌+◌, List, [], ◌∷◌, ◌++◌, arith, refl, sym, ◌∙◌, ap}
use Rattle.std.specs.List.{All, Contains, flat_map, range_with_len}
use Rattle.std.proofs.lemmas.List.{flat_map_more}
use Rattle.std.proofs.lemmas.List.Elements.{All-contains}
use Rattle.bdb_text_format.proofs.of_format.ListLemmas.{all_of, only_member, range_zero_more}
use Rattle.bdb_text_format.proofs.of_format.MemberLemmas.{of_flat_map}

-- the same of each is the same of all
pub flat_map_alike : {X Y : Type 0} (f g : X → List Y) (xs : List X) → ((x : X) → f x ≡ g x) → flat_map f xs ≡ flat_map g xs
flat_map_alike f g [] same = refl
flat_map_alike f g (x ∷ xs) same = ap (λ ys. ys ++ flat_map f xs) (same x) ∙ ap (λ ys. g x ++ ys) (flat_map_alike f g xs same)

pub flat_map_none : {X Y : Type 0} (xs : List X) → flat_map {X = X} {A = Y} (λ x. []) xs ≡ []
flat_map_none [] = refl
flat_map_none (x ∷ xs) = flat_map_none xs

-- one piece more, after what was there
pub more_pieces : {Y : Type 0} (f : ℕ → List Y) (before : List Y) (n : ℕ) → (before ++ flat_map f (range_with_len 0 n)) ++ f n ≡ before
    ++ flat_map f (range_with_len 0 (n + 1))
more_pieces f before n =
    flat_map_more f before (range_with_len 0 n) n
    ∙ ap (λ ns. before ++ flat_map f ns) (sym (range_zero_more n))

-- What holds of all.

pub all_first : {X : Type 0} (P : X → Type 0) (x : X) (xs : List X) → All P (x ∷ xs) → P x
all_first P x xs all = all 0 x (omega arith)

pub all_rest : {X : Type 0} (P : X → Type 0) (x : X) (xs : List X) → All P (x ∷ xs) → All P xs
all_rest P x xs all = λ k d inside. all (suc k) d (omega (arith, inside))

-- what holds of each piece holds of all
pub all_pieces : {X Y : Type 0} (P : Y → Type 0) (f : X → List Y) (xs : List X) → ((x : X) → Contains xs x → All P (f x)) → All P (flat_map f xs)
all_pieces {X = X} P f xs each =
    all_of P (flat_map f xs) (λ y inside. let from : (x : X) × Contains xs x × Contains (f x) y = of_flat_map f xs y inside in All-contains P (f from.0) y
    (each from.0 from.1) from.2)

-- of one at most
pub all_one : {X : Type 0} (P : X → Type 0) (x : X) → P x → All P (x ∷ [])
all_one P x holds = all_of P (x ∷ []) (λ y inside. subst P (only_member x y inside) holds)

pub all_none : {X : Type 0} (P : X → Type 0) → All P []
all_none P = λ k d inside. absurd (omega (arith, inside))
