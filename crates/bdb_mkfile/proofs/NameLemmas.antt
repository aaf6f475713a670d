-- Sections in the order of their names.
use Rattle.std.proofs.Common.{◌≡◌, suc, ◌+◌, Bool, true, false, cond, not, List, [], ◌∷◌, ◌++◌, get_or, refl, sym, ◌∙◌, ap, subst, arith, true≢false, append_assoc, ◌&&◌, All, filter, fold}
use Rattle.std.specs.Cmp.{IsStrictWeakOrder}
use Rattle.std.specs.List.Sorted.{IsSortedBy, IsStableBy, ties}
use Rattle.bdb_mkfile.proofs.Common.{false_from_ne_true, true_from_ne_false, All-cons, All-head, All-nil, All-push, All-tail, filter-append, Bytes, Section, name_of, put_named, named_before, with_named}
use Rattle.bdb_need.proofs.of_settle.KeyOrderLemmas.{key_chain, key_one_way}

pub names_weakly : IsStrictWeakOrder named_before
names_weakly = record {
  one_way = λ a b is. key_one_way (Bytes (name_of a)) (Bytes (name_of b)) is;
  chain = λ a b c first second. key_chain (Bytes (name_of a)) (Bytes (name_of b)) (Bytes (name_of c)) first second;
}

-- what stands before one that stands before a third, or beside it, stands before the third
above : (a b c : Section) → named_before a b ≡ true → named_before c b ≡ false → named_before a c ≡ true
above a b c is not_above = true_from_ne_false (named_before a c) (λ no. true≢false (sym is ∙ names_weakly.chain a c b no not_above))

put_ahead : (x other : Section) (others : List Section) → named_before x other ≡ true → put_named x (other ∷ others) ≡ x ∷ other ∷ others
put_ahead x other others is = rw is refl

put_past : (x other : Section) (others : List Section) → named_before x other ≡ false → put_named x (other ∷ others) ≡ other ∷ put_named x others
put_past x other others is = rw is refl

module _ (x y : Section) (is : named_before x y ≡ true) where
  behind : (rest : List Section) → put_named y (x ∷ rest) ≡ x ∷ put_named y rest
  behind rest = put_past y x rest (names_weakly.one_way x y is)

  both_more : (other : Section) (others : List Section) (yo xo : Bool) → named_before y other ≡ yo → named_before x other ≡ xo
      → put_named x (put_named y others) ≡ put_named y (put_named x others)
      → put_named x (put_named y (other ∷ others)) ≡ put_named y (put_named x (other ∷ others))
  both_more other others true xo is_yo is_xo same =
      let low : named_before x other ≡ true = above x y other is (names_weakly.one_way y other is_yo) in
      ap (put_named x) (put_ahead y other others is_yo) ∙ put_ahead x y (other ∷ others) is
      ∙ sym (ap (put_named y) (put_ahead x other others low) ∙ behind (other ∷ others) ∙ ap (λ l. x ∷ l) (put_ahead y other others is_yo))
  both_more other others false true is_yo is_xo same =
      ap (put_named x) (put_past y other others is_yo) ∙ put_ahead x other (put_named y others) is_xo
      ∙ sym (ap (put_named y) (put_ahead x other others is_xo) ∙ behind (other ∷ others) ∙ ap (λ l. x ∷ l) (put_past y other others is_yo))
  both_more other others false false is_yo is_xo same =
      ap (put_named x) (put_past y other others is_yo) ∙ put_past x other (put_named y others) is_xo ∙ ap (λ l. other ∷ l) same
      ∙ sym (ap (put_named y) (put_past x other others is_xo) ∙ put_past y other (put_named x others) is_yo)

  -- two sections of which one stands before the other come into a list in either order
  put_both : (list : List Section) → put_named x (put_named y list) ≡ put_named y (put_named x list)
  put_both [] = put_ahead x y [] is ∙ sym (behind [])
  put_both (other ∷ others) = both_more other others (named_before y other) (named_before x other) refl refl (put_both others)

pub swapped : (x y : Section) (list : List Section) → ties named_before x y ≡ false → put_named x (put_named y list) ≡ put_named y (put_named x list)
swapped x y list apart = by_tests (named_before x y) (named_before y x) refl refl apart
  where
    by_tests : (a b : Bool) → named_before x y ≡ a → named_before y x ≡ b → (not a && not b) ≡ false
        → put_named x (put_named y list) ≡ put_named y (put_named x list)
    by_tests true b xy yx some = put_both x y xy list
    by_tests false true xy yx some = sym (put_both y x yx list)
    by_tests false false xy yx some = absurd cc

-- A list that a stable sort moved.

-- a list at its first element that passes a test
record Split (test : Section → Bool) (x : Section) (rest ys : List Section) : Type 0 where
  front : List Section
  back : List Section
  is : ys ≡ front ++ x ∷ back
  none : All (λ y. test y ≡ false) front
  left : filter test back ≡ rest

split_at : (test : Section → Bool) (x : Section) (rest : List Section) (y : Section) (ys : List Section) (b : Bool) → test y ≡ b
    → (filter test ys ≡ x ∷ rest → Split test x rest ys) → cond b (y ∷ filter test ys) (filter test ys) ≡ x ∷ rest → Split test x rest (y ∷ ys)
split_at test x rest y ys true is later same = record { front = []; back = ys; is = cc; none = All-nil (λ y. test y ≡ false); left = cc }
split_at test x rest y ys false is later same =
    let found = later same in
    record {
      front = y ∷ found.front;
      back = found.back;
      is = ap (λ zs. y ∷ zs) found.is;
      none = All-cons (λ y. test y ≡ false) y found.front is found.none;
      left = found.left;
    }

split : (test : Section → Bool) (x : Section) (rest ys : List Section) → filter test ys ≡ x ∷ rest → Split test x rest ys
split test x rest [] e = absurd cc
split test x rest (y ∷ ys) e = split_at test x rest y ys (test y) refl (split test x rest ys) e

none_pass : (test : Section → Bool) (xs : List Section) → All (λ x. test x ≡ false) xs → filter test xs ≡ []
none_pass test [] none = refl
none_pass test (x ∷ xs) none = rw (All-head (λ y. test y ≡ false) x xs none) (none_pass test xs (All-tail (λ y. test y ≡ false) x xs none))

all_fail : (p q : Section → Bool) → ((y : Section) → p y ≡ false → q y ≡ false) → (xs : List Section) → All (λ y. p y ≡ false) xs
    → All (λ y. q y ≡ false) xs
all_fail p q step [] none = All-nil (λ y. q y ≡ false)
all_fail p q step (x ∷ xs) none =
    All-cons (λ y. q y ≡ false) x xs (step x (All-head (λ y. p y ≡ false) x xs none)) (all_fail p q step xs (All-tail (λ y. p y ≡ false) x xs none))

without_it : (b : Bool) (x : Section) (front back xs : List Section) → (b ≡ true → front ≡ []) → front ++ cond b (x ∷ back) back ≡ cond b (x ∷ xs) xs
    → front ++ back ≡ xs
without_it true x front back xs none same = grind arith
without_it false x front back xs none same = same

not_itself : (x : Section) → named_before x x ≡ false
not_itself x = false_from_ne_true (named_before x x) (λ is. true≢false (sym is ∙ names_weakly.one_way x x is))

tied_itself : (x : Section) → ties named_before x x ≡ true
tied_itself x = rw (not_itself x) refl

tied_parts : (x y : Section) → ties named_before x y ≡ true → (named_before x y ≡ false) × (named_before y x ≡ false)
tied_parts x y is = grind (arith, named_before)

untied : (z x y : Section) → ties named_before z x ≡ true → ties named_before x y ≡ false → ties named_before z y ≡ false
untied z x y tied apart = grind (arith, false_from_ne_true, named_before, tied_parts, names_weakly)

-- a section that ties with none before it may come first
first_of_all : (x : Section) (front back list : List Section) → All (λ y. ties named_before x y ≡ false) front
    → fold with_named list (front ++ x ∷ back) ≡ fold with_named (put_named x list) (front ++ back)
first_of_all x [] back list none = refl
first_of_all x (y ∷ front) back list none =
    first_of_all x front back (put_named y list) (All-tail (λ y. ties named_before x y ≡ false) y front none)
    ∙ ap (λ l. fold with_named l (front ++ back)) (swapped x y list (All-head (λ y. ties named_before x y ≡ false) y front none))

sorted_alike : (xs ys list : List Section) → IsStableBy named_before xs ys → fold with_named list ys ≡ fold with_named list xs
sorted_alike [] [] list alike = refl
sorted_alike [] (y ∷ ys) list alike =
    let none : y ∷ filter (ties named_before y) ys ≡ [] = rw (tied_itself y) at (alike y) in absurd cc
sorted_alike (x ∷ xs) ys list alike =
    let same : filter (ties named_before x) ys ≡ x ∷ filter (ties named_before x) xs = rw (tied_itself x) at (alike x) in
    let it = split (ties named_before x) x (filter (ties named_before x) xs) ys same in
    let left : (z : Section) → filter (ties named_before z) (it.front ++ it.back) ≡ filter (ties named_before z) xs = λ z.
    filter-append (ties named_before z) it.front it.back
    ∙ without_it (ties named_before z x) x (filter (ties named_before z) it.front) (filter (ties named_before z) it.back)
    (filter (ties named_before z) xs)
    (λ tied. none_pass (ties named_before z) it.front
    (all_fail (ties named_before x) (ties named_before z) (λ y. untied z x y tied) it.front it.none))
    (sym (filter-append (ties named_before z) it.front (x ∷ it.back)) ∙ ap (filter (ties named_before z)) (sym it.is) ∙ alike z)
    in
    ap (fold with_named list) it.is ∙ first_of_all x it.front it.back list it.none ∙ sorted_alike xs (it.front ++ it.back) (put_named x list) left

-- A sorted list stays as it is.

abbrev Rises : Section → List Section → Type 0
Rises last [] = Unit {0}
Rises last (section ∷ sections) = (named_before section last ≡ false) × Rises section sections

sorted_rest : (x : Section) (xs : List Section) → IsSortedBy named_before (x ∷ xs) → IsSortedBy named_before xs
sorted_rest x xs sorted k d low high =
    let e : suc k + 1 ≡ suc (k + 1) = omega arith in
    subst (λ n. named_before (get_or (x ∷ xs) n d) (get_or xs k d) ≡ false) e (sorted (suc k) d (omega arith) (omega arith))

rises_from : (last : Section) (rest : List Section) → IsSortedBy named_before (last ∷ rest) → Rises last rest
rises_from last [] sorted = tt
rises_from last (x ∷ rest) sorted = (sorted 0 x (omega arith) (omega arith), rises_from x rest (sorted_rest last (x ∷ rest) sorted))

put_last : (x : Section) (list : List Section) → All (λ other. named_before x other ≡ false) list → put_named x list ≡ list ++ x ∷ []
put_last x [] all = refl
put_last x (other ∷ others) all =
    put_past x other others (All-head (λ o. named_before x o ≡ false) other others all)
    ∙ ap (λ l. other ∷ l) (put_last x others (All-tail (λ o. named_before x o ≡ false) other others all))

one_by_one : (last : Section) (done rest : List Section) → All (λ other. named_before last other ≡ false) done → Rises last rest
    → fold with_named (done ++ last ∷ []) rest ≡ done ++ last ∷ rest
one_by_one last done [] all rises = refl
one_by_one last done (x ∷ rest) all rises =
    let past : All (λ other. named_before x other ≡ false) (done ++ last ∷ []) =
    All-push (λ other. named_before x other ≡ false) done last
    (all_fail (λ other. named_before last other) (λ other. named_before x other) (λ other is. names_weakly.chain x last other rises.0 is) done all)
    rises.0 in
    ap (λ l. fold with_named l rest) (put_last x (done ++ last ∷ []) past)
    ∙ one_by_one x (done ++ last ∷ []) rest past rises.1
    ∙ append_assoc done (last ∷ []) (x ∷ rest)

in_turn : (sorted : List Section) → IsSortedBy named_before sorted → fold with_named [] sorted ≡ sorted
in_turn [] up = refl
in_turn (x ∷ rest) up = one_by_one x [] rest (All-nil (λ other. named_before x other ≡ false)) (rises_from x rest up)

-- what a stable sort makes of sections is what they are put into one after the other
pub sorted_is : (sections sorted : List Section) → IsSortedBy named_before sorted → IsStableBy named_before sections sorted
    → sorted ≡ fold with_named [] sections
sorted_is sections sorted up stable = sym (in_turn sorted up) ∙ sorted_alike sections sorted [] stable

-- Comparisons answer by bytes.
