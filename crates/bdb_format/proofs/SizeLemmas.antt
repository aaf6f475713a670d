-- Legal page sizes.
use Rattle.std.proofs.Common.{◌≡◌, ℕ, ◌≤◌, true, false, List, [], ◌∷◌, arith, refl, ◌==◌, ◌||◌}
use Rattle.std.specs.List.{list_any}
use Rattle.std.proofs.lemmas.Bool.{eqb-true}
use Rattle.bdb_format.specs.Terms.{is_page_size}

abbrev AllWithin : List ℕ → Type 0
AllWithin [] = Unit {0}
AllWithin (size ∷ sizes) = (512 ≤ size) × (size ≤ 32768) × AllWithin sizes

within : (n : ℕ) (sizes : List ℕ) → AllWithin sizes → list_any (λ size. size == n) sizes ≡ true → (512 ≤ n) × (n ≤ 32768)
within n [] all one = absurd cc
within n (size ∷ sizes) all one =
    elim (size == n) as (λ b. (size == n) ≡ b → (b || list_any (λ s. s == n) sizes) ≡ true → (512 ≤ n) × (n ≤ 32768)) [
      | true ↦ λ same some. let is : size ≡ n = eqb-true size n same in (omega (arith, all.0), omega (arith, all.1))
      | false ↦ λ same some. within n sizes all.2 some
    ] refl one

-- a legal page size is from 512 to 32768
pub size_bounds : (n : ℕ) → is_page_size n ≡ true → (512 ≤ n) × (n ≤ 32768)
size_bounds n legal = grind (arith, within)

pub long_page : (n : ℕ) → is_page_size n ≡ true → 512 ≤ n
long_page n legal = (size_bounds n legal).0
