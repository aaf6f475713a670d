-- Pages of one size, joined.
use Rattle.std.proofs.Common.{◌≡◌, ◌∙◌, ℕ, zero, suc, ◌+◌, ◌-◌, ◌*◌, ◌<◌, ◌≤◌, List, [], ◌∷◌, ◌++◌, length, drop, take, refl, sym, ap, arith}
use Rattle.std.specs.List.{flat_map, range_with_len}
use Rattle.std.proofs.Math.Seq.{drop-append-add}
use Rattle.std.proofs.lemmas.List.{drop-drop, drop-take, length-append, take-take, take_all, take_at}
use Rattle.bdb_graph.specs.of_format.declared.kinds.Order.{Order}
use Rattle.bdb_graph.specs.of_format.Terms.{number, number_at}

pub page_of_joined : (f : ℕ → List ℕ) (size a n p : ℕ) → ((q : ℕ) → a ≤ q → q < a + n → length (f q) ≡ size) → p < n
    → take size (drop (p * size) (flat_map f (range_with_len a n))) ≡ f (a + p)
page_of_joined f size a zero p sizes lt = absurd (omega arith)
page_of_joined f size a (suc n) zero sizes lt =
    let rest : List ℕ = flat_map f (range_with_len (a + 1) n) in
    let none : 0 * size ≡ 0 = omega arith in
    let same : a + 0 ≡ a = omega arith in
    ap (λ (k : ℕ). take size (drop k (f a ++ rest))) none ∙ (take_at (f a) rest size (sizes a (omega arith) (omega arith)) ∙ ap f (sym same))
page_of_joined f size a (suc n) (suc p) sizes lt =
    let rest : List ℕ = flat_map f (range_with_len (a + 1) n) in
    let first : length (f a) ≡ size = sizes a (omega arith) (omega arith) in
    let past : suc p * size ≡ length (f a) + p * size = omega arith in
    let later : take size (drop (p * size) rest) ≡ f (a + 1 + p) = page_of_joined f size (a + 1) n p (λ q low high. sizes q (omega arith) (omega arith))
    (omega arith) in
    let same : a + 1 + p ≡ a + suc p = omega arith in
    ap (λ (k : ℕ). take size (drop k (f a ++ rest))) past ∙ (ap (take size) (drop-append-add (f a) rest (p * size)) ∙ (later ∙ ap f same))

pub length_joined : (f : ℕ → List ℕ) (size a n : ℕ) → ((q : ℕ) → a ≤ q → q < a + n → length (f q) ≡ size) → length (flat_map f (range_with_len a n)) ≡ n * size
length_joined f size a zero sizes = omega arith
length_joined f size a (suc n) sizes =
    let rest : length (flat_map f (range_with_len (a + 1) n)) ≡ n * size = length_joined f size (a + 1) n (λ q low high. sizes q (omega arith) (omega arith)) in
    let first : length (f a) ≡ size = sizes a (omega arith) (omega arith) in
    length-append (f a) (flat_map f (range_with_len (a + 1) n)) ∙ omega arith

take_both : (m n : ℕ) (xs : List ℕ) → take m xs ++ take n (drop m xs) ≡ take (m + n) xs
take_both zero n xs = let same : 0 + n ≡ n = omega arith in ap (λ (k : ℕ). take k xs) (sym same)
take_both (suc m) n [] = let same : suc m + n ≡ suc (m + n) = omega arith in empty n ∙ ap (λ (k : ℕ). take k []) (sym same)
  where
    empty : (n : ℕ) → take {A = ℕ} n [] ≡ []
    empty zero = refl
    empty (suc n) = refl
take_both (suc m) n (x ∷ xs) = let same : suc m + n ≡ suc (m + n) = omega arith in ap (λ ys. x ∷ ys) (take_both m n xs)
    ∙ ap (λ (k : ℕ). take k (x ∷ xs)) (sym same)

joins_from : (xs : List ℕ) (size a n : ℕ) → flat_map (λ p. take size (drop (p * size) xs)) (range_with_len a n) ≡ take (n * size) (drop (a * size) xs)
joins_from xs size a zero = let none : 0 * size ≡ 0 = omega arith in ap (λ (k : ℕ). take k (drop (a * size) xs)) (sym none)
joins_from xs size a (suc n) =
    let next : (a + 1) * size ≡ a * size + size = omega arith in
    let all : size + n * size ≡ suc n * size = omega arith in
    let rest : flat_map (λ p. take size (drop (p * size) xs)) (range_with_len (a + 1) n) ≡ take (n * size) (drop size (drop (a * size) xs)) =
    joins_from xs size (a + 1) n ∙ (ap (λ (k : ℕ). take (n * size) (drop k xs)) next ∙ ap (take (n * size)) (sym (drop-drop size (a * size) xs))) in
    ap (λ ys. take size (drop (a * size) xs) ++ ys) rest ∙ (take_both size (n * size) (drop (a * size) xs) ∙ ap (λ (k : ℕ). take k (drop (a * size) xs)) all)

-- the pages of bytes, joined, are these bytes
pub joins_back : (xs : List ℕ) (size n : ℕ) → length xs ≡ n * size → flat_map (λ p. take size (drop (p * size) xs)) (range_with_len 0 n) ≡ xs
joins_back xs size n long =
    let none : 0 * size ≡ 0 = omega arith in
    joins_from xs size 0 n ∙ (ap (λ (k : ℕ). take (n * size) (drop k xs)) none ∙ take_all (n * size) xs (omega arith))

-- a number in the front of bytes
pub number_in_front : (n : ℕ) (order : Order) (xs : List ℕ) (size at : ℕ) → at + n ≤ size → number_at n order (take size xs) at ≡ number_at n order xs at
unfolding number_at
number_in_front n order xs size at inside =
    let m : ℕ = size - at in
    let whole : size ≡ at + m = omega arith in
    let first : drop at (take (at + m) xs) ≡ take m (drop at xs) = drop-take at m xs in
    ap (λ (k : ℕ). number order (take n (drop at (take k xs)))) whole
    ∙ (ap (λ ys. number order (take n ys)) first ∙ ap (number order) (take-take n m (drop at xs) (omega arith)))
