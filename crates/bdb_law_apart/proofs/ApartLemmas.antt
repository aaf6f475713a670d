-- Lists in which each member is related to all that come later: parts of them, and lists with the same members.
use Rattle.std.proofs.Common.{◌≡◌, ◌≢◌, ◌⊎◌, ℕ, true, List, [], ◌∷◌, ◌++◌, map, refl, sym, ◌∙◌, ap, subst, inl, inr, true≢false}
use Rattle.std.specs.List.{Contains}
use Rattle.bdb_apart.specs.of_format.Terms.{less}
use Rattle.bdb_law_homes.proofs.of_format.MemberLemmas.{first_member, in_map, is_empty, later_member, member_cases, no_member}
use Rattle.bdb_law_homes.proofs.of_format.LessLemmas.{less_not_back, less_self}
use Rattle.bdb_law_kept.specs.Later.{AllLater}

-- of two members one comes later
pub either_way : {X : Type 0} (R : X → X → Type 0) (xs : List X) (a b : X) → AllLater R xs → Contains xs a → Contains xs b → a ≢ b → R a b ⊎ R b a
either_way R [] a b all at_a at_b other = absurd (no_member [] a refl at_a)
either_way R (x ∷ xs) a b all at_a at_b other = elim (member_cases x xs a at_a) [
  | inl here ↦ elim (member_cases x xs b at_b) [
    | inl there ↦ absurd (other (sym here ∙ there))
    | inr later ↦ inl (subst (λ y. R y b) here (all.0 b later))
  ]
  | inr first ↦ elim (member_cases x xs b at_b) [
    | inl there ↦ inr (subst (λ y. R y a) there (all.0 a first))
    | inr later ↦ either_way R xs a b all.1 first later other
  ]
]

pub later_last : {X : Type 0} (R : X → X → Type 0) (xs ys : List X) → AllLater R (xs ++ ys) → AllLater R ys
later_last R [] ys all = all
later_last R (x ∷ xs) ys all = later_last R xs ys all.1

pub later_unmap : {X Y : Type 0} (R : Y → Y → Type 0) (f : X → Y) (xs : List X) → AllLater R (map f xs) → AllLater (λ x z. R (f x) (f z)) xs
later_unmap R f [] all = tt
later_unmap R f (x ∷ xs) all = ((λ y at. all.0 (f y) (in_map f xs y at)), later_unmap R f xs all.1)

-- Ascending lists with the same members are the same.

abbrev pub Rises : {X : Type 0} → (X → List ℕ) → List X → Type 0
Rises name xs = AllLater (λ x y. less (name x) (name y) ≡ true) xs

pub same_rising : {X : Type 0} (name : X → List ℕ) (xs ys : List X) → Rises name xs → Rises name ys → ((z : X) → Contains xs z → Contains ys z)
    → ((z : X) → Contains ys z → Contains xs z) → xs ≡ ys
same_rising name [] ys rise also all back = sym (is_empty ys (λ z at. no_member [] z refl (back z at)))
same_rising name (x ∷ xs) [] rise also all back = absurd (no_member [] x refl (all x (first_member x xs)))
same_rising name (x ∷ xs) (y ∷ ys) rise also all back =
    let same : x ≡ y = first (member_cases y ys x (all x (first_member x xs))) (member_cases x xs y (back y (first_member y ys))) in
    ap (λ z. z ∷ xs) same
    ∙ ap (λ zs. y ∷ zs)
    (same_rising name xs ys rise.1 also.1
    (λ z at. elim (member_cases y ys z (all z (later_member x xs z at))) [
      | inl here ↦ absurd (not_first x z (rise.0 z at) (same ∙ here))
      | inr later ↦ later
    ])
    (λ z at. elim (member_cases x xs z (back z (later_member y ys z at))) [
      | inl here ↦ absurd (not_first y z (also.0 z at) (sym same ∙ here))
      | inr later ↦ later
    ]))
  where
    not_first : (a b : _) → less (name a) (name b) ≡ true → a ≢ b
    not_first a b rising is = true≢false (sym rising ∙ (ap (λ c. less (name a) (name c)) (sym is) ∙ less_self (name a)))

    first : (y ≡ x) ⊎ Contains ys x → (x ≡ y) ⊎ Contains xs y → x ≡ y
    first (inl here) other = sym here
    first (inr later) (inl there) = there
    first (inr later) (inr behind) = absurd (true≢false (sym (rise.0 y behind) ∙ less_not_back (name y) (name x) (also.0 x later)))
