-- A sum over references is a sum over the pages that they name, each as often as it's named.
use Rattle.std.proofs.Common.{◌≡◌, ℕ, zero, suc, ◌+◌, ◌*◌, ◌<◌, ◌≤◌, Bool, true, false, cond, List, [], ◌∷◌, arith, refl, sym, ◌∙◌, ap, inl, inr, ◌==◌}
use Rattle.std.specs.List.{Contains, flat_map, range_with_len, sum_by}
use Rattle.std.proofs.lemmas.Bool.{cases_Bool, eqb-true, eqb-false, ne_eqb}
use Rattle.std.proofs.lemmas.List.Sums.{sum_by-cons, sum_by-append}
use Rattle.bdb_tree.proofs.of_format.MemberLemmas.{first_member, later_member, of_flat_map, of_range}
use Rattle.bdb_law_sums.specs.Counting.{PartsAreEntrances, times}

pub sum_same : {X : Type 0} (f g : X → ℕ) (xs : List X) → ((x : X) → Contains xs x → f x ≡ g x) → sum_by f xs ≡ sum_by g xs
sum_same f g [] same = refl
sum_same f g (x ∷ xs) same =
    let rest : sum_by f xs ≡ sum_by g xs = sum_same f g xs (λ y at. same y (later_member x xs y at)) in
    let here : f x ≡ g x = same x (first_member x xs) in
    omega (arith, sum_by-cons f x xs, sum_by-cons g x xs)

pub sum_none : {X : Type 0} (f : X → ℕ) (xs : List X) → ((x : X) → Contains xs x → f x ≡ 0) → sum_by f xs ≡ 0
sum_none f [] none = refl
sum_none f (x ∷ xs) none =
    let rest : sum_by f xs ≡ 0 = sum_none f xs (λ y at. none y (later_member x xs y at)) in
    let here : f x ≡ 0 = none x (first_member x xs) in
    omega (arith, sum_by-cons f x xs)

pub sum_plus : {X : Type 0} (f g : X → ℕ) (xs : List X) → sum_by (λ x. f x + g x) xs ≡ sum_by f xs + sum_by g xs
sum_plus f g [] = refl
sum_plus f g (x ∷ xs) =
    omega (arith, sum_plus f g xs, sum_by-cons f x xs, sum_by-cons g x xs, sum_by-cons (λ y. f y + g y) x xs)

pub sum_parts : {X Y : Type 0} (f : Y → ℕ) (parts : X → List Y) (xs : List X) → sum_by f (flat_map parts xs) ≡ sum_by (λ x. sum_by f (parts x)) xs
sum_parts f parts [] = refl
sum_parts f parts (x ∷ xs) =
    omega (arith, sum_parts f parts xs, sum_by-append f (parts x) (flat_map parts xs), sum_by-cons (λ y. sum_by f (parts y)) x xs)

-- of a range, one number counts
pub one_of_range : (f : ℕ → ℕ) (x a n : ℕ) → a ≤ x → x < a + n → sum_by (λ q. cond (x == q) (f q) 0) (range_with_len a n) ≡ f x
one_of_range f x a zero low high = absurd (omega arith)
one_of_range f x a (suc n) low high =
    let g : ℕ → ℕ = λ q. cond (x == q) (f q) 0 in
    elim (cases_Bool (x == a)) [
      | inl is ↦
          let same : x ≡ a = eqb-true x a is in
          let here : g a ≡ f x = ap (λ b. cond b (f a) 0) is ∙ ap f (sym same) in
          let rest : sum_by g (range_with_len (a + 1) n) ≡ 0 = sum_none g (range_with_len (a + 1) n) (λ q at.
          let within = of_range (a + 1) n q at in
          ap (λ b. cond b (f q) 0) (ne_eqb x q (λ e. omega (arith, within.0, same, e)))) in
          omega (arith, sum_by-cons g a (range_with_len (a + 1) n))
      | inr other ↦
          let different : x ≡ a → ⊥ = eqb-false x a other in
          let here : g a ≡ 0 = ap (λ b. cond b (f a) 0) other in
          let rest : sum_by g (range_with_len (a + 1) n) ≡ f x = one_of_range f x (a + 1) n (omega arith) (omega arith) in
          omega (arith, sum_by-cons g a (range_with_len (a + 1) n))
    ]

add_one_times : (n k : ℕ) → (1 + n) * k ≡ k + n * k
add_one_times n k = grind arith

weigh : (b : Bool) (n k : ℕ) → (cond b 1 0 + n) * k ≡ cond b k 0 + n * k
weigh true n k = add_one_times n k
weigh false n k = omega arith

times_more : (q x : ℕ) (xs : List ℕ) (k : ℕ) → times q (x ∷ xs) * k ≡ cond (x == q) k 0 + times q xs * k
times_more q x xs k = ap (λ n. n * k) (sum_by-cons (λ y. cond (y == q) 1 0) x xs) ∙ weigh (x == q) (times q xs) k

-- a sum over the pages that are named is one over all pages, each as often as it's named
pub by_page : (f : ℕ → ℕ) (n : ℕ) (xs : List ℕ) → ((x : ℕ) → Contains xs x → x < n) → sum_by f xs
    ≡ sum_by (λ q. times q xs * f q) (range_with_len 0 n)
by_page f n [] below = sym (sum_none (λ q. times q [] * f q) (range_with_len 0 n) (λ q at. omega arith))
by_page f n (x ∷ xs) below =
    let rest : sum_by f xs ≡ sum_by (λ q. times q xs * f q) (range_with_len 0 n) = by_page f n xs (λ y at. below y (later_member x xs y at)) in
    let one : sum_by (λ q. cond (x == q) (f q) 0) (range_with_len 0 n) ≡ f x = one_of_range f x 0 n (omega arith)
    (omega (arith, below x (first_member x xs))) in
    let both = sum_plus (λ q. cond (x == q) (f q) 0) (λ q. times q xs * f q) (range_with_len 0 n) in
    let split = sum_same (λ q. times q (x ∷ xs) * f q) (λ q. cond (x == q) (f q) 0 + times q xs * f q) (range_with_len 0 n)
    (λ q at. times_more q x xs (f q)) in
    omega (arith, sum_by-cons f x xs)

pub parts_are_entrances : PartsAreEntrances
parts_are_entrances n targets whole own entrance parts =
    let pages : List ℕ = range_with_len 0 n in
    let all : List ℕ = flat_map targets pages in
    let named : sum_by whole all ≡ sum_by (λ q. times q all * whole q) pages = by_page whole n all (λ x at.
    let of : (q : ℕ) × Contains pages q × Contains (targets q) x = of_flat_map targets pages x at in
    parts.below of.0 x (omega (arith, of_range 0 n of.0 of.1)) of.2) in
    let once : sum_by (λ q. times q all * whole q) pages ≡ sum_by whole pages = sum_same (λ q. times q all * whole q) whole pages (λ q at.
    elim (parts.once q (omega (arith, of_range 0 n q at))) [
      | inl none ↦ ap (λ k. times q all * k) none ∙ (omega (arith, none))
      | inr one ↦ ap (λ k. k * whole q) one ∙ omega arith
    ]) in
    let held = sum_parts whole targets pages in
    let split = sum_same (λ q. sum_by whole (targets q) + own q) (λ q. whole q + entrance q) pages
    (λ q at. parts.splits q (omega (arith, of_range 0 n q at))) in
    let left = sum_plus (λ q. sum_by whole (targets q)) own pages in
    let right = sum_plus whole entrance pages in
    omega arith
