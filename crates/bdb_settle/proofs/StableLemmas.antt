-- A list is the same for elements that a stable sort moved.
use Rattle.std.proofs.Common.{arith, ◌≡◌, Bool, true, false, cond, not, List, [], ◌∷◌, ◌++◌, refl, sym, ◌∙◌, ap, inl, inr, true≢false, ◌&&◌, All, filter, fold}
use Rattle.std.specs.Cmp.{IsStrictWeakOrder}
use Rattle.std.specs.List.Sorted.{ties}
use Rattle.std.proofs.lemmas.Bool.{cases_Bool, false_from_ne_true, true_from_ne_false}
use Rattle.std.proofs.lemmas.List.Elements.{All-head, All-tail, All-cons, All-nil, filter-append}

-- a list at its first element that passes a test
record Split {X : Type 0} (test : X → Bool) (x : X) (rest ys : List X) : Type 0 where
  front : List X
  back : List X
  is : ys ≡ front ++ x ∷ back
  none : All (λ y. test y ≡ false) front
  left : filter test back ≡ rest

split_at : {X : Type 0} (test : X → Bool) (x : X) (rest : List X) (y : X) (ys : List X) (b : Bool) → test y ≡ b
    → (filter test ys ≡ x ∷ rest → Split test x rest ys) → cond b (y ∷ filter test ys) (filter test ys) ≡ x ∷ rest → Split test x rest (y ∷ ys)
split_at test x rest y ys true is later same = record { front = []; back = ys; is = cc; none = All-nil (λ y. test y ≡ false); left = cc }
split_at test x rest y ys false is later same =
    let found = later same in
    record {
      front = y ∷ found.front;
      back = found.back;
      is = ap (λ zs. y ∷ zs) found.is;
      none = All-cons (λ y. test y ≡ false) y found.front is found.none;
      left = found.left;
    }

split : {X : Type 0} (test : X → Bool) (x : X) (rest ys : List X) → filter test ys ≡ x ∷ rest → Split test x rest ys
split test x rest [] e = absurd cc
split test x rest (y ∷ ys) e = split_at test x rest y ys (test y) refl (split test x rest ys) e

none_pass : {X : Type 0} (test : X → Bool) (xs : List X) → All (λ x. test x ≡ false) xs → filter test xs ≡ []
none_pass test [] none = refl
none_pass test (x ∷ xs) none =
    rw (All-head (λ y. test y ≡ false) x xs none) (none_pass test xs (All-tail (λ y. test y ≡ false) x xs none))

all_fail : {X : Type 0} (p q : X → Bool) → ((y : X) → p y ≡ false → q y ≡ false) → (xs : List X) → All (λ y. p y ≡ false) xs → All (λ y. q y ≡ false) xs
all_fail p q step [] none = All-nil (λ y. q y ≡ false)
all_fail p q step (x ∷ xs) none =
    All-cons (λ y. q y ≡ false) x xs (step x (All-head (λ y. p y ≡ false) x xs none)) (all_fail p q step xs (All-tail (λ y. p y ≡ false) x xs none))

without_it : {X : Type 0} (b : Bool) (x : X) (front back xs : List X) → (b ≡ true → front ≡ []) → front ++ cond b (x ∷ back) back ≡ cond b (x ∷ xs) xs
    → front ++ back ≡ xs
without_it true x front back xs none same = grind arith
without_it false x front back xs none same = same

module _ {X : Type 0} (before : X → X → Bool) (weak : IsStrictWeakOrder before) where
  not_itself : (x : X) → before x x ≡ false
  not_itself x = false_from_ne_true (before x x) (λ is. true≢false (sym is ∙ weak.one_way x x is))

  tied_itself : (x : X) → ties before x x ≡ true
  tied_itself x = rw (not_itself x) refl

  tied_parts : (x y : X) → ties before x y ≡ true → (before x y ≡ false) × (before y x ≡ false)
  tied_parts x y is = parts (before x y) (before y x) is
    where
      parts : (a b : Bool) → (not a && not b) ≡ true → (a ≡ false) × (b ≡ false)
      parts true b is = absurd cc
      parts false true is = absurd cc
      parts false false is = (refl, refl)

  untied : (z x y : X) → ties before z x ≡ true → ties before x y ≡ false → ties before z y ≡ false
  untied z x y tied apart = false_from_ne_true (ties before z y) (λ is.
      let first = tied_parts z x tied in
      let second = tied_parts z y is in
      let xy : before x y ≡ false = weak.chain x z y first.1 second.0 in
      let yx : before y x ≡ false = weak.chain y z x second.1 first.0 in
      true≢false (sym (both xy yx) ∙ apart))
    where
      both : before x y ≡ false → before y x ≡ false → ties before x y ≡ true
      both xy yx = rw (xy, yx) refl

  tied_back : (x y : X) → ties before x y ≡ true → ties before y x ≡ true
  tied_back x y tied = let parts = tied_parts x y tied in rw (parts.0, parts.1) refl

  -- two that tie, tie with the same
  pub tied_alike : (z m x : X) → ties before z m ≡ true → ties before z x ≡ ties before m x
  tied_alike z m x tied = elim (cases_Bool (ties before m x)) [
    | inl is ↦
        true_from_ne_false (ties before z x) (λ apart. true≢false (sym is ∙ untied m z x (tied_back z m tied) apart)) ∙ sym is
    | inr apart ↦ untied z m x tied apart ∙ sym apart
  ]

  -- what is made of elements in turn is the same for two of which one stands before the other, whichever comes first
  module _ {L : Type 0} (more : L → X → L) (either : (x y : X) → before x y ≡ true → (list : L) → more (more list y) x ≡ more (more list x) y) where
    swapped : (x y : X) (list : L) → ties before x y ≡ false → more (more list y) x ≡ more (more list x) y
    swapped x y list apart = by_tests (before x y) (before y x) refl refl apart
      where
        by_tests : (a b : Bool) → before x y ≡ a → before y x ≡ b → (not a && not b) ≡ false → more (more list y) x ≡ more (more list x) y
        by_tests true b xy yx some = either x y xy list
        by_tests false true xy yx some = sym (either y x yx list)
        by_tests false false xy yx some = absurd cc

    -- a pair that ties with none before it may come first
    first_of : (x : X) (front back : List X) (list : L) → All (λ y. ties before x y ≡ false) front
        → fold more list (front ++ x ∷ back) ≡ fold more (more list x) (front ++ back)
    first_of x [] back list none = refl
    first_of x (y ∷ front) back list none =
        first_of x front back (more list y) (All-tail (λ y. ties before x y ≡ false) y front none)
        ∙ ap (λ l. fold more l (front ++ back)) (swapped x y list (All-head (λ y. ties before x y ≡ false) y front none))

    pub fold_alike : (xs ys : List X) (list : L) → ((z : X) → filter (ties before z) ys ≡ filter (ties before z) xs)
        → fold more list ys ≡ fold more list xs
    fold_alike [] [] list alike = refl
    fold_alike [] (y ∷ ys) list alike =
        let none : y ∷ filter (ties before y) ys ≡ [] = rw (tied_itself y) at (alike y) in absurd cc
    fold_alike (x ∷ xs) ys list alike =
        let same : filter (ties before x) ys ≡ x ∷ filter (ties before x) xs = rw (tied_itself x) at (alike x) in
        let it = split (ties before x) x (filter (ties before x) xs) ys same in
        let left : (z : X) → filter (ties before z) (it.front ++ it.back) ≡ filter (ties before z) xs = λ z.
        filter-append (ties before z) it.front it.back
        ∙ without_it (ties before z x) x (filter (ties before z) it.front) (filter (ties before z) it.back) (filter (ties before z) xs)
        (λ tied. none_pass (ties before z) it.front (all_fail (ties before x) (ties before z) (λ y. untied z x y tied) it.front it.none))
        (sym (filter-append (ties before z) it.front (x ∷ it.back)) ∙ ap (filter (ties before z)) (sym it.is) ∙ alike z)
        in
        ap (fold more list) it.is ∙ first_of x it.front it.back list it.none ∙ fold_alike xs (it.front ++ it.back) (more list x) left
