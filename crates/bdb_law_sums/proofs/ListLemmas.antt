-- Lists in the order of their keys hold what they held; a file of salvage follows pages as the file itself.
use Rattle.std.proofs.Common.{◌≡◌, ℕ, ◌+◌, true, false, cond, List, [], ◌∷◌, arith, refl, sum_by}
use Rattle.std.proofs.lemmas.List.Sums.{sum_by-cons}
use Rattle.bdb_tree.specs.of_format.Terms.{StoredPair, by_key, insert_pair, less}

insert_sum : (f : StoredPair → ℕ) (pair : StoredPair) (pairs : List StoredPair) → sum_by f (insert_pair pair pairs) ≡ f pair + sum_by f pairs
insert_sum f pair [] = sum_by-cons f pair []
insert_sum f pair (other ∷ others) =
    elim (less other.key pair.key) as (λ b. sum_by f (cond b (other ∷ insert_pair pair others) (pair ∷ other ∷ others)) ≡ f pair + sum_by f
    (other ∷ others)) [
      | true ↦ omega (arith, sum_by-cons f other (insert_pair pair others), insert_sum f pair others, sum_by-cons f other others)
      | false ↦ sum_by-cons f pair (other ∷ others)
    ]

-- in the order of their keys pairs weigh the same
pub by_key_sum : (f : StoredPair → ℕ) (pairs : List StoredPair) → sum_by f (by_key pairs) ≡ sum_by f pairs
by_key_sum f [] = refl
by_key_sum f (pair ∷ pairs) = omega (arith, insert_sum f pair (by_key pairs), by_key_sum f pairs, sum_by-cons f pair pairs)
