-- The pages of a chain are as many as its bytes fill.
use Rattle.std.proofs.Common.{◌≡◌, ℕ, zero, suc, min, ◌+◌, ◌-◌, ◌*◌, ◌<◌, ◌≤◌, [], ◌∷◌, length, drop, arith, refl, length-drop}
use Rattle.bdb_pack.specs.Values.{ChainsAreCounted, piece_length}
use Rattle.bdb_pack.proofs.CutLemmas.{suc-times}

-- one page more, in numbers: `n` bytes of which the page takes `k`, and `m` pages for the rest
more : (m w n k : ℕ) → 0 < n → k ≡ min w n → n - k ≤ m * w → (0 < m → (m - 1) * w < n - k) → (n ≤ suc m * w) × (0 < suc m → (suc m - 1) * w < n)
more zero w n k some taken fits fills = grind (arith, suc-times)
more (suc m) w n k some taken fits fills = grind (arith, suc-times)

pub chains_are_counted : ChainsAreCounted
chains_are_counted order size number previous rest [] chain = grind arith
chains_are_counted order size number previous rest (page ∷ pages) chain =
    let k : ℕ = piece_length size rest in
    let later = chains_are_counted order size (number + 1) number (drop k rest) pages chain.2 in
    let left : length (drop k rest) ≡ length rest - k = length-drop k rest in
    more (length pages) (size - 26) (length rest) k chain.0 refl (omega (arith, later.0, left)) (λ some. let lower = later.1 some in omega (arith, lower, left))
