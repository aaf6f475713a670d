-- What was found of two chains.
use Rattle.std.proofs.Common.{◌≡◌, ℕ, Bool, false, List, refl, sym, ◌∙◌, ap, inl, inr, Some}
use Rattle.std.specs.BTreeMap.{BTreeMap, Updates, get}
use Rattle.std.specs.Ordering.{is_eq, nat_cmp, ordering_then}
use Rattle.std.specs.declared.cmp.Ordering.{Ordering}
use Rattle.std.specs.declared.cmp.Ordering.TheVariants.{Less as Below, Equal, Greater}
use Rattle.std.proofs.lemmas.Bool.{cases_eq}
use Rattle.bdb_graph.specs.of_format.Terms.{file_of, less}
use Rattle.bdb_overflow.specs.Held.{AreFound, chain_value, two_cmp}
use Rattle.bdb_graph.proofs.of_format.ListLemmas.{one_answer}
use Rattle.bdb_graph.proofs.of_format.LessLemmas.{other_number}

first_apart : (p q : Ordering) → is_eq p ≡ false → is_eq (ordering_then p q) ≡ false
first_apart Below q is = refl
first_apart Equal q is = absurd cc
first_apart Greater q is = refl

second_apart : (p q : Ordering) → is_eq q ≡ false → is_eq (ordering_then p q) ≡ false
second_apart Below q is = refl
second_apart Equal q is = is
second_apart Greater q is = refl

-- and of two more
pub found_more : (image : List ℕ) (old new : BTreeMap (ℕ × ℕ) Bool) (a b : ℕ) (is : Bool) → AreFound image old
    → is ≡ less (chain_value (file_of image) a) (chain_value (file_of image) b) → Updates two_cmp old new (a, b) (Some is) → AreFound image new
found_more image old new a b is found holds updates = record {
  each = λ x y answer at.
      elim (cases_eq a x) [
        | inl first ↦
            elim (cases_eq b y) [
              | inl second ↦ the_same x y answer at first second
              | inr differ ↦ found.each x y answer (sym (updates.2 (x, y) (second_apart (nat_cmp a x) (nat_cmp b y) (other_number b y differ))) ∙ at)
            ]
        | inr differ ↦ found.each x y answer (sym (updates.2 (x, y) (first_apart (nat_cmp a x) (nat_cmp b y) (other_number a x differ))) ∙ at)
      ];
}
  where
    the_same : (x y : ℕ) (answer : Bool) → get two_cmp new (x, y) ≡ Some answer → a ≡ x → b ≡ y
        → answer ≡ less (chain_value (file_of image) x) (chain_value (file_of image) y)
    the_same x y answer at first second =
        let here : get two_cmp new (a, b) ≡ get two_cmp new (x, y) =
        ap (λ m. get two_cmp new (m, b)) first ∙ ap (λ n. get two_cmp new (x, n)) second in
        one_answer answer is (sym at ∙ (sym here ∙ updates.1))
        ∙ (holds
        ∙ (ap (λ m. less (chain_value (file_of image) m) (chain_value (file_of image) b)) first
        ∙ ap (λ n. less (chain_value (file_of image) x) (chain_value (file_of image) n)) second))
