-- Ranges of lists, of pairs and of leaves.
use Rattle.std.proofs.Common.{arith, ◌≡◌, ◌∙◌, inl, inr, ℕ, Bool, true, false, cond, List, [], ◌∷◌, ◌++◌, map, take, drop, refl, sym, ap, subst, append-nil}
use Rattle.std.proofs.Common.{Contains, flat_map}
use Rattle.std.proofs.lemmas.List.{take-append-drop}
use Rattle.std.proofs.lemmas.List.Concat.{flat_map-append}
use Rattle.std.proofs.lemmas.List.Elements.{Contains-append_left, Contains-append_right, filter-append}
use Rattle.bdb_btree.specs.of_format.Terms.{BytesKey, File, ListKey, StoredPair, btree_list, data_of, file_of, header_in, leaves, listed_pair, page_at}
use Rattle.bdb_btree.specs.of_format.Terms.{pairs_of, tree_pairs}
use Rattle.bdb_btree.proofs.of_format.MemberLemmas.{first_member, later_member, member_cases, no_member}
use Rattle.bdb_btree.specs.of_graph.Forest.{AllDistinct, NotIn}
use Rattle.bdb_btree.proofs.of_graph.LeavesLemmas.{no_leaf_twice}
use Rattle.bdb_range.specs.Ranges.{in_range, lies_between}
use Rattle.bdb_range.specs.InRange.{pairs_between}
use Rattle.bdb_range.specs.Spans.{ListsAreFiltered, SpansGiveRanges}

-- Lists.

entries_between : (from to key : List ℕ) (values : List (List ℕ)) (b : Bool) → lies_between from to key ≡ b
    → in_range (map (λ value. (BytesKey key, value)) values) from to ≡ cond b (map (λ value. (BytesKey key, value)) values) []
entries_between from to key [] true is = refl
entries_between from to key [] false is = refl
entries_between from to key (value ∷ values) true is = rw is (ap (λ rest. (BytesKey key, value) ∷ rest) (entries_between from to key values true is))
entries_between from to key (value ∷ values) false is = rw is (entries_between from to key values false is)

pair_between : (file : File) (from to : List ℕ) (pair : StoredPair) (b : Bool) → lies_between from to pair.key ≡ b
    → in_range (listed_pair file pair) from to ≡ cond b (listed_pair file pair) []
pair_between file from to pair b is =
    elim pair.live as (λ live. in_range (cond live (map (λ value. (BytesKey pair.key, value)) (data_of file pair.data_item)) []) from to
    ≡ cond b (cond live (map (λ value. (BytesKey pair.key, value)) (data_of file pair.data_item)) []) []) [
      | true ↦ entries_between from to pair.key (data_of file pair.data_item) b is
      | false ↦ elim b as (λ c. [] ≡ cond {A = List (ListKey × List ℕ)} c [] []) [ true ↦ refl | false ↦ refl ]
    ]

pairs_filtered : (file : File) (from to : List ℕ) (pairs : List StoredPair)
    → in_range (flat_map (listed_pair file) pairs) from to ≡ flat_map (listed_pair file) (pairs_between from to pairs)
pairs_filtered file from to [] = refl
pairs_filtered file from to (pair ∷ pairs) = grind (arith, filter-append, pair_between, pairs_filtered file from to pairs)

pub lists_are_filtered : ListsAreFiltered
unfolding btree_list
lists_are_filtered file root from to = pairs_filtered file from to (tree_pairs file root)

-- Leaves.

not_in : (x y : ℕ) (xs : List ℕ) → NotIn x xs → Contains xs y → x ≡ y → ⊥
not_in x y [] none at same = no_member [] y refl at
not_in x y (z ∷ xs) none at same =
    elim (member_cases z xs y at) [ inl here ↦ none.0 (same ∙ sym here) | inr later ↦ not_in x y xs none.1 later same ]

-- no page stands in both of two parts of a list without repeats
disjoint : (xs ys : List ℕ) (x : ℕ) → AllDistinct (xs ++ ys) → Contains xs x → Contains ys x → ⊥
disjoint [] ys x distinct at_x at_y = no_member [] x refl at_x
disjoint (y ∷ xs) ys x distinct at_x at_y =
    elim (member_cases y xs x at_x) [
      | inl here ↦ not_in y x (xs ++ ys) distinct.0 (Contains-append_right xs ys x at_y) here
      | inr later ↦ disjoint xs ys x distinct.1 later at_y
    ]

-- leaves without a pair in the range add none
nothing_between : (file : File) (from to : List ℕ) (pages : List ℕ)
    → ((p : ℕ) (pair : StoredPair) → Contains pages p → Contains (pairs_of file p) pair → lies_between from to pair.key ≡ false)
    → pairs_between from to (flat_map (pairs_of file) pages) ≡ []
nothing_between file from to [] none = refl
nothing_between file from to (p ∷ pages) none =
    filter-append (λ (pair : StoredPair). lies_between from to pair.key) (pairs_of file p) (flat_map (pairs_of file) pages)
    ∙ (ap (λ xs. xs ++ pairs_between from to (flat_map (pairs_of file) pages)) (no_pairs (pairs_of file p) (λ pair at. none p pair (first_member p pages) at))
    ∙ nothing_between file from to pages (λ q pair at its. none q pair (later_member p pages q at) its))
  where
    no_pairs : (pairs : List StoredPair) → ((pair : StoredPair) → Contains pairs pair → lies_between from to pair.key ≡ false)
        → pairs_between from to pairs ≡ []
    no_pairs [] all = refl
    no_pairs (pair ∷ pairs) all = rw (all pair (first_member pair pairs)) (no_pairs pairs (λ other at. all other (later_member pair pairs other at)))

false_unless : (b : Bool) → (b ≡ true → ⊥) → b ≡ false
false_unless true never = absurd (never refl)
false_unless false never = refl

pub spans_give_ranges : SpansGiveRanges
unfolding tree_pairs
spans_give_ranges image root first count from to forest low span =
    let file : File = file_of image in
    let taken : List ℕ = take count span.rest in
    let left : List ℕ = drop count span.rest in
    let distinct : AllDistinct (leaves file root) = no_leaf_twice image (header_in (page_at file root)).level root forest low in
    let between : List ℕ → List StoredPair = λ pages. pairs_between from to (flat_map (pairs_of file) pages) in
    let joins : (xs ys : List ℕ) → between (xs ++ ys) ≡ between xs ++ between ys =
    λ xs ys. ap (pairs_between from to) (flat_map-append (pairs_of file) xs ys)
    ∙ filter-append (λ (pair : StoredPair). lies_between from to pair.key) (flat_map (pairs_of file) xs) (flat_map (pairs_of file) ys) in
    let parts : leaves file root ≡ span.before ++ (taken ++ left) = span.are ∙ ap (λ xs. span.before ++ xs) (sym (take-append-drop count span.rest)) in
    let front : AllDistinct (span.before ++ (taken ++ left)) = subst AllDistinct parts distinct in
    let back : AllDistinct (taken ++ left) = tail_distinct span.before (taken ++ left) front in
    let here : (p : ℕ) → Contains (span.before ++ (taken ++ left)) p → Contains (leaves file root) p = λ p at. subst (λ xs. Contains xs p) (sym parts) at in
    let none_before : between span.before ≡ [] =
    nothing_between file from to span.before (λ p pair at its. false_unless (lies_between from to pair.key)
    (λ is. disjoint span.before (taken ++ left) p front at (Contains-append_left taken left p
    (span.all p pair (here p (Contains-append_left span.before (taken ++ left) p at)) its is)))) in
    let none_left : between left ≡ [] =
    nothing_between file from to left (λ p pair at its. false_unless (lies_between from to pair.key)
    (λ is. disjoint taken left p back (span.all p pair (here p (Contains-append_right span.before (taken ++ left) p (Contains-append_right taken left p at)))
    its is) at)) in
    ap between parts ∙ (joins span.before (taken ++ left) ∙ (ap (λ xs. xs ++ between (taken ++ left)) none_before
    ∙ (joins taken left ∙ (ap (λ xs. between taken ++ xs) none_left ∙ append-nil (between taken)))))
  where
    tail_distinct : (xs ys : List ℕ) → AllDistinct (xs ++ ys) → AllDistinct ys
    tail_distinct [] ys distinct = distinct
    tail_distinct (x ∷ xs) ys distinct = tail_distinct xs ys distinct.1
