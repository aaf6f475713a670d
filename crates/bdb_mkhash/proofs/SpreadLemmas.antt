-- How keys are spread over the pages of a bucket.
use Rattle.std.proofs.Common.{◌≡◌, ℕ, zero, suc, ◌+◌, ◌-◌, ◌<◌, ◌≤◌, cond, List, [], ◌∷◌, ◌++◌, take, drop, append_assoc, arith, refl, ◌∙◌, ap, flat_map, sum_by}
use Rattle.bdb_mkhash.proofs.Common.{le-leb, lt-leb, append-nil, sum_by-cons, spread_on}

-- the first things stand on the open page
pub spread_taken : {A : Type 0} (room : ℕ) (first cost : A → ℕ) (left : ℕ) (page xs : List A) (n : ℕ) → sum_by cost (take n xs) ≤ left
    → spread_on room first cost left page xs ≡ spread_on room first cost (left - sum_by cost (take n xs)) (page ++ take n xs) (drop n xs)
spread_taken room first cost left page xs zero enough = grind (arith, append-nil)
spread_taken room first cost left page [] (suc n) enough = grind (arith, append-nil)
spread_taken room first cost left page (x ∷ xs) (suc n) enough =
    let sum : sum_by cost (x ∷ take n xs) ≡ cost x + sum_by cost (take n xs) = sum_by-cons cost x (take n xs) in
    ap (λ b. cond b (spread_on room first cost (left - cost x) (page ++ (x ∷ [])) xs) (page ∷ spread_on room first cost (room - first x) (x ∷ []) xs))
    (le-leb (cost x) left (omega (arith, enough, sum)))
    ∙ (spread_taken room first cost (left - cost x) (page ++ (x ∷ [])) xs n (omega (arith, enough, sum))
    ∙ (ap (λ k. spread_on room first cost k ((page ++ (x ∷ [])) ++ take n xs) (drop n xs))
    (let e : left - cost x - sum_by cost (take n xs) ≡ left - sum_by cost (x ∷ take n xs) = omega (arith, sum) in e)
    ∙ ap (λ p. spread_on room first cost (left - sum_by cost (x ∷ take n xs)) p (drop n xs)) (append_assoc page (x ∷ []) (take n xs))))

-- the next one begins a page, where it has no room on the open one
pub spread_over : {A : Type 0} (room : ℕ) (cost : A → ℕ) (left : ℕ) (page xs : List A) (x : A) → left < cost x → cost x ≤ room
    → spread_on room cost cost left page (x ∷ xs) ≡ page ∷ spread_on room cost cost room [] (x ∷ xs)
spread_over room cost left page xs x over fits = grind (arith, lt-leb, le-leb)

-- the pages hold all things, in their order
pub spread_all : {A : Type 0} (room : ℕ) (first cost : A → ℕ) (left : ℕ) (page xs : List A)
    → flat_map (λ p. p) (spread_on room first cost left page xs) ≡ page ++ xs
spread_all room first cost left page [] = refl
spread_all room first cost left page (x ∷ xs) =
    grind (arith, append_assoc, spread_all room first cost (left - cost x) (page ++ (x ∷ [])) xs, spread_all room first cost (room - first x) (x ∷ []) xs)
