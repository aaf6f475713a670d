-- The answers of a comparison of values, as tests and as the comparison of std.
use Rattle.std.proofs.Common.{◌≡◌, ℕ, Bool, true, false, List, refl, sym, subst, nat_cmp}
use Rattle.std.specs.declared.cmp.Ordering.{Ordering}
use Rattle.std.specs.declared.cmp.Ordering.TheVariants.{Less as Below, Equal, Greater}
use Rattle.std.specs.Cmp.Lexicographic.{slice_cmp}
use Rattle.std.specs.Str.{bytes_eq}
use Rattle.std.proofs.lemmas.Bool.{false_from_ne_true}
use Rattle.bdb_graph.specs.of_layout.Seen.{OrderingIs}
use Rattle.bdb_graph.proofs.of_layout.KeyLemmas.{slice_cmp-is}
use Rattle.bdb_graph.specs.of_format.Terms.{Less, less}
use Rattle.bdb_graph.proofs.of_format.LessLemmas.{eq_same, eq_self, not_less_both, not_less_same}

not_less_here : (a b : List ℕ) → a ≡ b → less a b ≡ false
not_less_here a b same = false_from_ne_true (less a b) (λ is. not_less_same b (subst (λ xs. Less xs b) same is))

abbrev answers_less : Ordering → Bool
answers_less Below = true
answers_less Equal = false
answers_less Greater = false

pub is_less : (r : Ordering) (a b : List ℕ) → OrderingIs r a b → answers_less r ≡ less a b
is_less Below a b is = sym is
is_less Equal a b is = sym (not_less_here a b is)
is_less Greater a b is = sym (false_from_ne_true (less a b) (λ other. not_less_both a b other is))

abbrev answers_same : Ordering → Bool
answers_same Below = false
answers_same Equal = true
answers_same Greater = false

pub is_same : (r : Ordering) (a b : List ℕ) → OrderingIs r a b → answers_same r ≡ bytes_eq a b
is_same Below a b is = sym (false_from_ne_true (bytes_eq a b) (λ same. not_less_same b (subst (λ xs. Less xs b) (eq_same a b same) is)))
is_same Equal a b is = sym (subst (λ xs. bytes_eq a xs ≡ true) is (eq_self a))
is_same Greater a b is = sym (false_from_ne_true (bytes_eq a b) (λ same. not_less_same a (subst (λ xs. Less xs a) (sym (eq_same a b same)) is)))

one_order : (r s : Ordering) (a b : List ℕ) → OrderingIs r a b → OrderingIs s a b → r ≡ s
one_order Below Below a b p q = refl
one_order Below Equal a b p q = absurd (not_less_same b (subst (λ xs. Less xs b) q p))
one_order Below Greater a b p q = absurd (not_less_both a b p q)
one_order Equal Below a b p q = absurd (not_less_same b (subst (λ xs. Less xs b) p q))
one_order Equal Equal a b p q = refl
one_order Equal Greater a b p q = absurd (not_less_same b (subst (λ xs. Less b xs) p q))
one_order Greater Below a b p q = absurd (not_less_both a b q p)
one_order Greater Equal a b p q = absurd (not_less_same b (subst (λ xs. Less b xs) q p))
one_order Greater Greater a b p q = refl

-- an answer is that of std's comparison
pub is_order : (r : Ordering) (a b : List ℕ) → OrderingIs r a b → r ≡ slice_cmp nat_cmp a b
is_order r a b is = one_order r (slice_cmp nat_cmp a b) a b is (slice_cmp-is a b)
