-- A leaf stands in one tree alone, and once there: what leaves weigh, where this one alone weighs 1.
use Rattle.std.proofs.Common.{◌≡◌, ℕ, ◌+◌, Bool, true, false, cond, [], ◌∷◌, arith, refl, sym, ◌∙◌, ap, inl, inr, ◌==◌}
use Rattle.std.specs.List.{range_with_len, sum_by}
use Rattle.std.proofs.lemmas.Bool.{cases_Bool, eqb-true, eqb-false, eq-eqb, ne_eqb}
use Rattle.bdb_tree.specs.of_format.Terms.{File, file_of, has_type, page_at, type_in}
use Rattle.bdb_law_sums.specs.TreeSums.{EachLeafIsInOneTree, leaf_weight}
use Rattle.bdb_law_sums.proofs.CountLemmas.{one_of_range, sum_same}
use Rattle.bdb_law_sums.proofs.TreeLemmas.{leaves_are_of_trees}

turned : (p q : ℕ) → (p == q) ≡ (q == p)
turned p q =
    elim (cases_Bool (q == p)) [
      | inl is ↦ eq-eqb p q (sym (eqb-true q p is)) ∙ sym is
      | inr other ↦ ne_eqb p q (λ e. eqb-false q p other (sym e)) ∙ sym other
    ]

swapped : (a b : Bool) → ◌≡◌ {A = ℕ} (cond a (cond b 1 0) 0) (cond b (cond a 1 0) 0)
swapped true true = refl
swapped true false = refl
swapped false true = refl
swapped false false = refl

pub each_leaf_is_in_one_tree : EachLeafIsInOneTree
each_leaf_is_in_one_tree image q forest low leaf =
    let file : File = file_of image in
    let here : ℕ → ℕ = λ p. cond (p == q) 1 0 in
    let is_leaf : ℕ → Bool = λ p. has_type (5 ∷ 6 ∷ 12 ∷ []) (type_in (page_at file p)) in
    let same = sum_same (leaf_weight file here) (λ p. cond (q == p) (cond (is_leaf p) 1 0) 0) (range_with_len 0 (file.last + 1)) (λ p at.
    ap (λ b. cond (is_leaf p) (cond b 1 0) 0) (turned p q) ∙ swapped (is_leaf p) (q == p)) in
    let one : sum_by (λ p. cond (q == p) (cond (is_leaf p) 1 0) 0) (range_with_len 0 (file.last + 1)) ≡ cond (is_leaf q) 1 0 =
    one_of_range (λ p. cond (is_leaf p) 1 0) q 0 (file.last + 1) (omega arith) (omega arith) in
    sym (leaves_are_of_trees image here forest) ∙ (same ∙ (one ∙ ap (λ b. cond b 1 0) leaf))
