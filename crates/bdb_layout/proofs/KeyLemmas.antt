-- The comparison of bytes as std makes it is the order of keys.
use Rattle.std.proofs.Common.{◌≡◌, ℕ, zero, suc, ◌+◌, ◌-◌, ◌<◌, List, [], ◌∷◌, drop, get_or, length, take, refl, sym, ap, subst, arith}
use Rattle.std.specs.declared.cmp.Ordering.{Ordering}
use Rattle.std.specs.declared.cmp.Ordering.TheVariants.{Less as Below, Equal, Greater}
use Rattle.std.specs.Cmp.Lexicographic.{slice_cmp}
use Rattle.std.specs.Ordering.{MatchOrdering, is_lt, nat_cmp, ordering_then}
use Rattle.std.specs.Cmp.{ranks}
use Rattle.bdb_format.specs.Terms.{less}
use Rattle.bdb_format.proofs.LessLemmas.{less_not_back, less_self}
use Rattle.bdb_layout.specs.Seen.{OrderingIs}
use Rattle.std.proofs.lemmas.Bool.Decides.{nat_tests}
use Rattle.std.proofs.lemmas.List.{drop_more}
use Rattle.bdb_layout.proofs.NumberLemmas.{to_end}

first_then : (r s : Ordering) (x y : ℕ) (xs ys : List ℕ) → MatchOrdering r (x < y) (x ≡ y) (y < x) → OrderingIs s xs ys
    → OrderingIs (ordering_then r s) (x ∷ xs) (y ∷ ys)
first_then Below s x y xs ys below rest = grind (arith, nat_tests)
first_then Greater s x y xs ys above rest = grind (arith, nat_tests)
first_then Equal Below x y xs ys same rest = grind (arith, nat_tests)
first_then Equal Equal x y xs ys same rest = cc
first_then Equal Greater x y xs ys same rest = grind (arith, nat_tests)

pub slice_cmp-is : (a b : List ℕ) → OrderingIs (slice_cmp nat_cmp a b) a b
slice_cmp-is [] [] = refl
slice_cmp-is [] (y ∷ ys) = refl
slice_cmp-is (x ∷ xs) [] = refl
slice_cmp-is (x ∷ xs) (y ∷ ys) = first_then (nat_cmp x y) (slice_cmp nat_cmp xs ys) x y xs ys (ranks x y) (slice_cmp-is xs ys)

-- behind bytes that are the same
pub ordering_behind : (n : ℕ) (a b : List ℕ) (r : Ordering) → take n a ≡ take n b → OrderingIs r (drop n a) (drop n b) → OrderingIs r a b
ordering_behind zero a b r same is = is
ordering_behind (suc n) [] [] r same is = is
ordering_behind (suc n) [] (y ∷ b) r same is = absurd cc
ordering_behind (suc n) (x ∷ a) [] r same is = absurd cc
ordering_behind (suc n) (x ∷ a) (y ∷ b) r same is =
    first_then Equal r x y a b (ap (λ xs. get_or xs 0 0) same) (ordering_behind n a b r (ap (drop 1) same) is)

-- the comparison of what stands behind them
pub behind_first : (n : ℕ) (a b : List ℕ) (r : Ordering) → take n a ≡ take n b
    → r ≡ slice_cmp nat_cmp (take (length a - n) (drop n a)) (take (length b - n) (drop n b)) → OrderingIs r a b
behind_first n a b r same is =
    ordering_behind n a b r same
    (rw is (rw (to_end n a, to_end n b) (slice_cmp-is (drop n a) (drop n b))))

-- the first byte that differs decides
pub ordering_at : (i : ℕ) (a b : List ℕ) (r : Ordering) (d e : ℕ) → take i a ≡ take i b → i < length a → i < length b
    → r ≡ nat_cmp (get_or a i d) (get_or b i e) → (get_or a i d ≡ get_or b i e → ⊥) → OrderingIs r a b
ordering_at i a b r d e same in_a in_b is apart =
    ordering_behind i a b r same
    (subst (λ xs. OrderingIs r xs (drop i b)) (sym (drop_more a i d in_a))
    (subst (OrderingIs r (get_or a i d ∷ drop (i + 1) a)) (sym (drop_more b i e in_b)) (by_bytes_at r is)))
  where
    decided : (o : Ordering) → MatchOrdering o (get_or a i d < get_or b i e) (get_or a i d ≡ get_or b i e) (get_or b i e < get_or a i d)
        → OrderingIs o (get_or a i d ∷ drop (i + 1) a) (get_or b i e ∷ drop (i + 1) b)
    decided Below below = grind (arith, nat_tests)
    decided Greater above = grind (arith, nat_tests)
    decided Equal equal = absurd (apart equal)

    by_bytes_at : (o : Ordering) → o ≡ nat_cmp (get_or a i d) (get_or b i e)
        → OrderingIs o (get_or a i d ∷ drop (i + 1) a) (get_or b i e ∷ drop (i + 1) b)
    by_bytes_at o at = subst (λ p. OrderingIs p (get_or a i d ∷ drop (i + 1) a) (get_or b i e ∷ drop (i + 1) b)) (sym at)
        (decided (nat_cmp (get_or a i d) (get_or b i e)) (ranks (get_or a i d) (get_or b i e)))

-- less by a comparison is less by the order
pub by_bytes : (r : Ordering) (a b : List ℕ) → OrderingIs r a b → is_lt r ≡ less a b
by_bytes Below a b is = sym is
by_bytes Equal a b is = rw is (sym (less_self b))
by_bytes Greater a b is = sym (less_not_back b a is)
