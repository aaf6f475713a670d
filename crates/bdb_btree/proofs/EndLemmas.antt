-- The least and the greatest of keys: they tell of a separator what all keys tell.
use Rattle.std.proofs.Common.{◌≡◌, ℕ, zero, suc, ◌+◌, ◌*◌, ◌-◌, ◌/◌, ◌<◌, false, List, [], ◌∷◌, ◌++◌, length, map, Option, Some, None, arith, refl, sym, ◌∙◌}
use Rattle.std.proofs.Common.{ap, subst, ◌||◌}
use Rattle.std.specs.List.{fold, range_with_len}
use Rattle.std.proofs.lemmas.Bool.Decides.{nat_tests}
use Rattle.std.proofs.lemmas.List.Sums.{fold-append}
use Rattle.std.proofs.Math.Bool.{or-false, or_assoc}
use Rattle.bdb_ranks.specs.of_format.Terms.{File, Item, Leaf, Listed, StoredPair, is_shared_key, item_at, less, page_at, pair_at, pairs_of, value_of}
use Rattle.bdb_ranks.proofs.of_format.LessLemmas.{less_above, less_self, less_trans, same_unless_less}
use Rattle.bdb_ranks.proofs.of_format.MemberLemmas.{first_member, later_member}
use Rattle.bdb_btree.specs.Bounds.{Bounds, DontFall, Ends, NoneBelow, ends_of, greater_of, greatest_of, is_any_below, is_below, joined, least_of, lesser_of}
use Rattle.bdb_btree.specs.Bounds.{no_ends, under, under_ends, under_pair, widen_by}
use Rattle.bdb_btree.proofs.WalkLemmas.{all_pairs}

-- Values one after another.

lesser_three : (a b c : List ℕ) → lesser_of (lesser_of (Some a) b) c ≡ least_of (Some a) (lesser_of (Some b) c)
lesser_three a b c = grind (arith, nat_tests, less_trans c b a, less_above c a b)

greater_three : (a b c : List ℕ) → greater_of (greater_of (Some a) b) c ≡ greatest_of (Some a) (greater_of (Some b) c)
greater_three a b c = grind (arith, nat_tests, less_trans a b c, less_above a c b)

lesser_step : (a b : Option (List ℕ)) (c : List ℕ) → lesser_of (least_of a b) c ≡ least_of a (lesser_of b c)
lesser_step a None c = refl
lesser_step None (Some b) c = grind (arith, Some, Option, None)
lesser_step (Some a) (Some b) c = lesser_three a b c

greater_step : (a b : Option (List ℕ)) (c : List ℕ) → greater_of (greatest_of a b) c ≡ greatest_of a (greater_of b c)
greater_step a None c = refl
greater_step None (Some b) c = grind (arith, Some, Option, None)
greater_step (Some a) (Some b) c = greater_three a b c

widened : (ends more : Ends) (pairs : List StoredPair) → fold widen_by (joined ends more) pairs ≡ joined ends (fold widen_by more pairs)
widened ends more [] = refl
widened ends more (pair ∷ pairs) =
    ap (λ least. fold widen_by (record { least = least; greatest = greater_of (greatest_of ends.greatest more.greatest) pair.key }) pairs)
    (lesser_step ends.least more.least pair.key)
    ∙ (ap (λ greatest. fold widen_by (record { least = least_of ends.least (lesser_of more.least pair.key); greatest = greatest }) pairs)
    (greater_step ends.greatest more.greatest pair.key)
    ∙ widened ends (record { least = lesser_of more.least pair.key; greatest = greater_of more.greatest pair.key }) pairs)

-- the ends of two lists, one after the other
pub ends_joined : (xs ys : List StoredPair) → ends_of (xs ++ ys) ≡ joined (ends_of xs) (ends_of ys)
ends_joined xs ys = fold-append widen_by no_ends xs ys ∙ widened (ends_of xs) no_ends ys

-- What ends tell of keys below an item.

below_step : (bound least : Option (List ℕ)) (key : List ℕ) → is_any_below bound (lesser_of least key) ≡ (is_any_below bound least || is_below bound key)
below_step bound None key = refl
below_step None (Some least) key = grind (arith, nat_tests)
below_step (Some bound) (Some least) key = grind (arith, nat_tests, less_trans key least bound, less_above key bound least)

under_step : (bounds : Bounds) (ends : Ends) (key : List ℕ)
    → under (under_ends bounds ends) key ≡ under_ends bounds (record { least = lesser_of ends.least key; greatest = greater_of ends.greatest key })
under_step bounds ends key = grind (arith, greater_step, below_step, or_assoc)

under_more : (bounds : Bounds) (ends : Ends) (pairs : List StoredPair)
    → fold under_pair (under_ends bounds ends) pairs ≡ under_ends bounds (fold widen_by ends pairs)
under_more bounds ends [] = refl
under_more bounds ends (pair ∷ pairs) =
    ap (λ b. fold under_pair b pairs) (under_step bounds ends pair.key)
    ∙ under_more bounds (record { least = lesser_of ends.least pair.key; greatest = greater_of ends.greatest pair.key }) pairs

pub under_all : (bounds : Bounds) (pairs : List StoredPair) → under_ends bounds (ends_of pairs) ≡ fold under_pair bounds pairs
under_all bounds pairs =
    sym (under_more bounds no_ends pairs)
    ∙ ap (λ wrong. fold under_pair (record { separator = bounds.separator; greatest = bounds.greatest; wrong = wrong }) pairs) (or-false bounds.wrong)

-- Keys that don't fall: the first is the least, and the last the greatest.

abbrev pub some_ends : List ℕ → List ℕ → Ends
some_ends least greatest = record { least = Some least; greatest = Some greatest }

lesser_first : (low high : List ℕ) → less high low ≡ false → lesser_of (Some low) high ≡ Some low
lesser_first low high up = rw (up) refl

greater_last : (low high : List ℕ) → less high low ≡ false → greater_of (Some low) high ≡ Some high
greater_last low high up = grind (arith, nat_tests, same_unless_less low high)

fall_ends : (pair_of : ℕ → StoredPair) (m i last : ℕ) (least : List ℕ) → i + m ≡ last
    → less (pair_of i).key least ≡ false → NoneBelow least (map pair_of (range_with_len (i + 1) m))
    → DontFall (map pair_of (range_with_len i (suc m)))
    → fold widen_by (some_ends least (pair_of i).key) (map pair_of (range_with_len (i + 1) m)) ≡ some_ends least (pair_of last).key
fall_ends pair_of zero i last least is low all fall = let same : i ≡ last = omega arith in ap (λ j. some_ends least (pair_of j).key) same
fall_ends pair_of (suc m) i last least is low all fall =
    let next : StoredPair = pair_of (i + 1) in
    let later : List StoredPair = map pair_of (range_with_len (i + 1 + 1) m) in
    ap (λ l. fold widen_by (record { least = l; greatest = greater_of (Some (pair_of i).key) next.key }) later)
    (lesser_first least next.key (all next (first_member next later)))
    ∙ (ap (λ g. fold widen_by (record { least = Some least; greatest = g }) later)
    (greater_last (pair_of i).key next.key (fall.0 next (first_member next later)))
    ∙ fall_ends pair_of m (i + 1) last least (omega arith) (all next (first_member next later)) (λ pair at. all pair (later_member next later pair at))
    fall.1)

ends_of_fall : (pair_of : ℕ → StoredPair) (m : ℕ) → DontFall (map pair_of (range_with_len 0 (suc m)))
    → ends_of (map pair_of (range_with_len 0 (suc m))) ≡ some_ends (pair_of 0).key (pair_of m).key
ends_of_fall pair_of m fall = fall_ends pair_of m 0 m (pair_of 0).key (omega arith) (less_self (pair_of 0).key) fall.0 fall

-- a leaf without pairs
pub no_ends_there : (file : File) (p n : ℕ) (leaf : Listed Item) → Leaf leaf ≡ page_at file p → 2 * n ≡ length leaf.items → n ≡ 0
    → no_ends ≡ ends_of (pairs_of file p)
no_ends_there file p n leaf is count none =
    let empty : length leaf.items / 2 ≡ 0 = omega arith in
    sym (ap ends_of (sym (all_pairs file p leaf is)
    ∙ ap (λ k. map (pair_at file p leaf (λ j. is_shared_key leaf.offsets (2 * j))) (range_with_len 0 k)) empty))

-- a leaf that has pairs
pub leaf_ends : (file : File) (p n : ℕ) (leaf : Listed Item) (first last : List ℕ) → Leaf leaf ≡ page_at file p
    → 2 * n ≡ length leaf.items → 0 < n → DontFall (pairs_of file p)
    → first ≡ value_of file (item_at leaf 0).content → last ≡ value_of file (item_at leaf (2 * (n - 1))).content
    → some_ends first last ≡ ends_of (pairs_of file p)
leaf_ends file p n leaf first last is count some fall first_is last_is =
    let pair_of : ℕ → StoredPair = pair_at file p leaf (λ j. is_shared_key leaf.offsets (2 * j)) in
    let more : suc (n - 1) ≡ length leaf.items / 2 = omega arith in
    let are : map pair_of (range_with_len 0 (suc (n - 1))) ≡ pairs_of file p =
    ap (λ k. map pair_of (range_with_len 0 k)) more ∙ all_pairs file p leaf is in
    ap (λ key. some_ends key last) first_is
    ∙ (ap (some_ends (pair_of 0).key) last_is
    ∙ (sym (ends_of_fall pair_of (n - 1) (subst DontFall (sym are) fall)) ∙ ap ends_of are))
