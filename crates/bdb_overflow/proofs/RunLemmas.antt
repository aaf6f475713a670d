-- Two lists compare by their fronts, and where these are the same by the rest.
use Rattle.std.proofs.Common.{◌≡◌, ◌⊎◌, ℕ, Bool, true, false, ◌≤◌, List, [], ◌∷◌, ◌++◌, length, take, drop, min, arith, append_assoc, refl, sym, ◌∙◌, ap, subst}
use Rattle.std.proofs.Common.{inl, inr, eq-eqb, ◌==◌, ◌&&◌, ◌||◌, nat_lt}
use Rattle.std.proofs.lemmas.List.{length-take-le, take-append-drop}
use Rattle.std.specs.declared.cmp.Ordering.{Ordering}
use Rattle.std.specs.declared.cmp.Ordering.TheVariants.{Less as Below, Equal, Greater}
use Rattle.bdb_graph.specs.of_layout.Seen.{OrderingIs}
use Rattle.bdb_graph.specs.of_format.Terms.{less}
use Rattle.bdb_overflow.specs.Runs.{HaveOrderOf}

-- a first difference stays the first
less_if : (lt same rest other : Bool) → (rest ≡ true → other ≡ true) → (lt || (same && rest)) ≡ true → (lt || (same && other)) ≡ true
less_if true same rest other more is = refl
less_if false true rest other more is = more is
less_if false false rest other more is = absurd cc

less_more : (xs ys zs ws : List ℕ) → length xs ≡ length ys → less xs ys ≡ true → less (xs ++ zs) (ys ++ ws) ≡ true
less_more [] [] zs ws same below = absurd cc
less_more [] (y ∷ ys) zs ws same below = absurd (omega (arith, same))
less_more (x ∷ xs) [] zs ws same below = absurd cc
less_more (x ∷ xs) (y ∷ ys) zs ws same below =
    less_if (nat_lt x y) (x == y) (less xs ys) (less (xs ++ zs) (ys ++ ws)) (less_more xs ys zs ws (omega (arith, same))) below

-- the same bytes in front don't count
less_then : (lt same rest : Bool) → same ≡ true → rest ≡ true → (lt || (same && rest)) ≡ true
less_then true same rest is below = refl
less_then false true rest is below = below
less_then false false rest is below = absurd cc

less_after : (xs zs ws : List ℕ) → less zs ws ≡ true → less (xs ++ zs) (xs ++ ws) ≡ true
less_after [] zs ws below = below
less_after (x ∷ xs) zs ws below = less_then (nat_lt x x) (x == x) (less (xs ++ zs) (xs ++ ws)) (eq-eqb x x refl) (less_after xs zs ws below)

order_after : (answer : Ordering) (xs zs ws : List ℕ) → OrderingIs answer zs ws → OrderingIs answer (xs ++ zs) (xs ++ ws)
order_after Below xs zs ws is = less_after xs zs ws is
order_after Equal xs zs ws is = ap (λ us. xs ++ us) is
order_after Greater xs zs ws is = less_after xs ws zs is

-- the order of the fronts, where they differ
pub order_of_fronts : (answer : Ordering) (xs ys zs ws : List ℕ) → length xs ≡ length ys → OrderingIs answer xs ys → (answer ≡ Equal → ⊥)
    → OrderingIs answer (xs ++ zs) (ys ++ ws)
order_of_fronts Below xs ys zs ws same is differ = less_more xs ys zs ws same is
order_of_fronts Equal xs ys zs ws same is differ = absurd (differ refl)
order_of_fronts Greater xs ys zs ws same is differ = less_more ys xs ws zs (sym same) is

-- where a front has nothing, its list has nothing
pub order_at_end : (answer : Ordering) (a b front_a front_b rest_a rest_b : List ℕ) → OrderingIs answer front_a front_b → a ≡ front_a ++ rest_a
    → b ≡ front_b ++ rest_b
    → (front_a ≡ [] → a ≡ []) → (front_b ≡ [] → b ≡ []) → (front_a ≡ []) ⊎ (front_b ≡ []) → OrderingIs answer a b
order_at_end answer a b [] [] rest_a rest_b is is_a is_b end_a end_b one = subst (λ x. OrderingIs answer x b) (sym (end_a refl))
    (subst (OrderingIs answer []) (sym (end_b refl)) is)
order_at_end answer a b [] (y ∷ ys) rest_a rest_b is is_a is_b end_a end_b one = grind arith
order_at_end answer a b (x ∷ xs) [] rest_a rest_b is is_a is_b end_a end_b one = grind arith
order_at_end answer a b (x ∷ xs) (y ∷ ys) rest_a rest_b is is_a is_b end_a end_b one = elim one [ inl none ↦ absurd cc | inr none ↦ absurd cc ]

-- Steps of a comparison.

pub step : (front a b c d zs ws : List ℕ) → HaveOrderOf a b c d → a ≡ front ++ zs → b ≡ front ++ ws → HaveOrderOf zs ws c d
step front a b c d zs ws have is_a is_b = grind (arith, order_after)

-- the lists are written otherwise
pub alike : (a b e f c d : List ℕ) → e ≡ a → f ≡ b → HaveOrderOf a b c d → HaveOrderOf e f c d
alike a b e f c d same_a same_b have =
    subst (λ x. HaveOrderOf x f c d) (sym same_a) (subst (λ y. HaveOrderOf a y c d) (sym same_b) have)

whole : (n : ℕ) (front rest : List ℕ) → front ++ rest ≡ take n front ++ (drop n front ++ rest)
whole n front rest = ap (λ xs. xs ++ rest) (sym (take-append-drop n front)) ∙ append_assoc (take n front) (drop n front) rest

-- where the first bytes of the fronts differ, so do the lists
pub fronts_decide : (answer : Ordering) (n : ℕ) (front_a front_b rest_a rest_b c d : List ℕ) → n ≤ length front_a → n ≤ length front_b
    → OrderingIs answer (take n front_a) (take n front_b) → (answer ≡ Equal → ⊥) → HaveOrderOf (front_a ++ rest_a) (front_b ++ rest_b) c d
    → OrderingIs answer c d
fronts_decide answer n front_a front_b rest_a rest_b c d long_a long_b is differ have =
    have.order answer
    (subst (λ x. OrderingIs answer x (front_b ++ rest_b)) (sym (whole n front_a rest_a))
    (subst (OrderingIs answer (take n front_a ++ (drop n front_a ++ rest_a))) (sym (whole n front_b rest_b))
    (order_of_fronts answer (take n front_a) (take n front_b) (drop n front_a ++ rest_a) (drop n front_b ++ rest_b)
    (length-take-le n front_a long_a ∙ sym (length-take-le n front_b long_b)) is differ)))

-- where the first bytes of the fronts are the same, the rest has the order
pub fronts_agree : (n : ℕ) (front_a front_b a b after_a after_b c d : List ℕ) → take n front_a ≡ take n front_b → a ≡ take n front_a ++ after_a
    → b ≡ take n front_b ++ after_b
    → HaveOrderOf a b c d → HaveOrderOf after_a after_b c d
fronts_agree n front_a front_b a b after_a after_b c d same is_a is_b have =
    step (take n front_a) a b c d after_a after_b have is_a (is_b ∙ ap (λ front. front ++ after_b) (sym same))

one_empty : (front_a front_b : List ℕ) → min (length front_a) (length front_b) ≡ 0 → (front_a ≡ []) ⊎ (front_b ≡ [])
one_empty [] front_b none = inl refl
one_empty (x ∷ xs) [] none = inr refl
one_empty (x ∷ xs) (y ∷ ys) none = absurd (omega (arith, none))

-- at the end of one of the lists
pub ends_decide : (answer : Ordering) (front_a front_b rest_a rest_b c d : List ℕ) → min (length front_a) (length front_b) ≡ 0
    → OrderingIs answer front_a front_b
    → (front_a ≡ [] → front_a ++ rest_a ≡ []) → (front_b ≡ [] → front_b ++ rest_b ≡ []) → HaveOrderOf (front_a ++ rest_a) (front_b ++ rest_b) c d
    → OrderingIs answer c d
ends_decide answer front_a front_b rest_a rest_b c d none is end_a end_b have = grind (arith, order_at_end, one_empty)
