-- Elements that are sorted by an order of their own are sorted by that of what they stand for, where the two orders are the same of those at hand.
use Rattle.std.proofs.Common.{◌≡◌, ◌+◌, ◌<◌, Bool, true, List, [], ◌∷◌, get_or, length, map, refl, sym, ◌∙◌, ap, subst, arith, Contains, filter}
use Rattle.std.specs.Cmp.{IsStrictWeakOrder}
use Rattle.std.specs.List.Sorted.{IsPermutation, IsSortedBy, IsStableBy, ties}
use Rattle.std.proofs.lemmas.List.{get_or-map, length-map}
use Rattle.std.proofs.lemmas.List.Elements.{Contains-get_or}
use Rattle.std.proofs.lemmas.List.Sorted.{Contains-permutation, IsPermutation-sym}
use Rattle.bdb_mktree.proofs.of_format.MemberLemmas.{first_member, in_filter, in_map, is_empty, later_member, no_member, of_filter, of_map}
use Rattle.bdb_settle.proofs.StableLemmas.{tied_alike}

filter_where : {X : Type 0} (p q : X → Bool) (xs : List X) → ((x : X) → Contains xs x → p x ≡ q x) → filter p xs ≡ filter q xs
filter_where p q [] same = refl
filter_where p q (x ∷ xs) same = grind (arith, later_member, first_member, filter_where p q xs (λ y at. same y (later_member x xs y at)))

filter_of_map : {X Y : Type 0} (f : X → Y) (test : Y → Bool) (xs : List X) → filter test (map f xs) ≡ map f (filter (λ x. test (f x)) xs)
filter_of_map f test [] = refl
filter_of_map f test (x ∷ xs) = grind (arith, filter_of_map f test xs)

module _ {X Y : Type 0} (f : X → Y) (own : X → X → Bool) (other : Y → Y → Bool) (weak : IsStrictWeakOrder other) where
  -- the two orders are the same of the elements of a list
  abbrev pub AreAlike : List X → Type 0
  AreAlike xs = (a b : X) → Contains xs a → Contains xs b → own a b ≡ other (f a) (f b)

  pub sorted_alike : (xs : List X) → AreAlike xs → IsSortedBy own xs → IsSortedBy other (map f xs)
  sorted_alike [] alike sorted k d low high = absurd (omega (arith, high))
  sorted_alike (x ∷ xs) alike sorted k d low high =
      let all : List X = x ∷ xs in
      let within : k + 1 < length all = omega (arith, high, length-map all f) in
      let first : get_or (map f all) k d ≡ f (get_or all k x) = get_or-map f all k x d (omega (arith, within)) in
      let second : get_or (map f all) (k + 1) d ≡ f (get_or all (k + 1) x) = get_or-map f all (k + 1) x d within in
      let same : own (get_or all (k + 1) x) (get_or all k x) ≡ other (f (get_or all (k + 1) x)) (f (get_or all k x)) =
      alike (get_or all (k + 1) x) (get_or all k x) (Contains-get_or all (k + 1) x within) (Contains-get_or all k x (omega (arith, within))) in
      rw (first, second) (sym same ∙ sorted k x low within)

  -- elements of two lists that tie with what a value of the first stands for
  tied_with : (xs ys : List X) → AreAlike xs → ((x : X) → Contains ys x → Contains xs x) → (m : X) (z : Y) → Contains xs m → ties other z (f m) ≡ true
      → filter (ties other z) (map f ys) ≡ map f (filter (ties own m) ys)
  tied_with xs ys alike within m z at tied =
      filter_of_map f (ties other z) ys
      ∙ ap (map f) (filter_where (λ x. ties other z (f x)) (ties own m) ys (λ x here.
      tied_alike other weak z (f m) (f x) tied ∙ same x (within x here)))
    where
      same : (x : X) → Contains xs x → ties other (f m) (f x) ≡ ties own m x
      same x here = rw (alike m x at here, alike x m here at) refl

  -- nothing ties with a value
  none_tied : (xs ys : List X) → ((x : X) → Contains ys x → Contains xs x) → (z : Y) → filter (ties other z) (map f xs) ≡ []
      → filter (ties other z) (map f ys) ≡ []
  none_tied xs ys within z none = is_empty (filter (ties other z) (map f ys)) (λ y at.
      let here = of_filter (ties other z) (map f ys) y at in
      let found = of_map f ys y here.0 in
      let inside : Contains (map f xs) y = subst (Contains (map f xs)) found.2 (in_map f xs found.0 (within found.0 found.1)) in
      no_member (filter (ties other z) (map f xs)) y none (in_filter (ties other z) (map f xs) y inside here.1))

  pub stable_alike : (xs ys : List X) → AreAlike xs → IsPermutation xs ys → IsStableBy own xs ys → IsStableBy other (map f xs) (map f ys)
  stable_alike xs ys alike moved stable z = by_first (filter (ties other z) (map f xs)) refl
    where
      within : (x : X) → Contains ys x → Contains xs x
      within x at = Contains-permutation ys xs x (IsPermutation-sym xs ys moved) at

      by_first : (got : List Y) → filter (ties other z) (map f xs) ≡ got → filter (ties other z) (map f ys) ≡ filter (ties other z) (map f xs)
      by_first [] is = none_tied xs ys within z is ∙ sym is
      by_first (y ∷ rest) is =
          let here = of_filter (ties other z) (map f xs) y (subst (λ zs. Contains zs y) (sym is) (first_member y rest)) in
          let found = of_map f xs y here.0 in
          let tied : ties other z (f found.0) ≡ true = subst (λ v. ties other z v ≡ true) (sym found.2) here.1 in
          tied_with xs ys alike within found.0 z found.1 tied
          ∙ ap (map f) (stable found.0)
          ∙ sym (tied_with xs xs alike (λ x at. at) found.0 z found.1 tied)
