-- The leaves of a span.
use Rattle.std.proofs.Common.{◌≡◌, ◌∙◌, ◌⊎◌, inl, inr, ℕ, suc, ◌+◌, ◌-◌, ◌<◌, ◌≤◌, Bool, true, false, List, [], ◌∷◌, ◌++◌, length, take, drop, get_or, refl}
use Rattle.std.proofs.Common.{sym, ap, subst, arith, append_assoc, ◌^◌, ◌&&◌, ◌==◌}
use Rattle.std.specs.List.{Contains, filter, flat_map, prefix_len}
use Rattle.std.proofs.lemmas.List.{length-append, take-append-drop}
use Rattle.std.proofs.lemmas.List.Concat.{flat_map-append}
use Rattle.std.proofs.lemmas.List.Elements.{Contains-append_cases, filter-append}
use Rattle.std.proofs.lemmas.Bool.{eq-eqb}
use Rattle.bdb_btree.specs.of_format.declared.metadata.BtreeMeta.{BtreeMeta}
use Rattle.bdb_btree.specs.of_format.Terms.{BtreeFields, File, StoredPair, btree_contents, database_faults, database_rows, file_of, is_out_of_order, is_recno}
use Rattle.bdb_btree.specs.of_format.Terms.{leaves, less, neighbours, pairs_of, tree_pairs}
use Rattle.bdb_btree.proofs.of_format.LessLemmas.{less_above, less_self}
use Rattle.bdb_btree.proofs.of_format.MemberLemmas.{first_member, in_flat_map, later_member, member_cases, no_member, none_passes}
use Rattle.bdb_btree.proofs.of_format.ListLemmas.{passes_here}
use Rattle.bdb_btree.specs.of_image.Linked.{FitsLeafPage, HasMetadata, IsForest}
use Rattle.bdb_btree.specs.Pairs.{AreLeaves}
use Rattle.std.proofs.lemmas.List.{get_or-drop, length-drop}
use Rattle.std.proofs.lemmas.List.Sums.{prefix_len-le-length, prefix_len_stops}
use Rattle.bdb_btree.specs.of_format.Verdict.{holding}
use Rattle.bdb_btree.proofs.of_format.BoolLemmas.{second_false}
use Rattle.bdb_btree.proofs.of_format.PairLemmas.{keyed_rows, neighbour_in}
use Rattle.bdb_btree.proofs.of_format.VerdictLemmas.{AllFail, all_fail, no_codes_at}
use Rattle.bdb_tree.proofs.PairLemmas.{tree_pair_inside}
use Rattle.bdb_btree.proofs.FallLemmas.{dont_fall, tree_keys}
use Rattle.bdb_btree.specs.Bounds.{DontFall}
use Rattle.bdb_range.specs.Ranges.{lies_between}
use Rattle.bdb_range.specs.InRange.{empty_leaves, holding_leaves, holds_between, is_empty}
use Rattle.bdb_range.specs.Spans.{WalksAreShort, WalksCover, begins_below, goes_on}

-- A walk that goes on.

pub walk_inside : (test : ℕ → Bool) (ps : List ℕ) → prefix_len test ps ≤ length ps
walk_inside test ps = prefix_len-le-length test ps

-- where it stops there is a leaf over which it doesn't go on
stops_at : (test : ℕ → Bool) (ps : List ℕ) (s : ℕ) (more : List ℕ) → drop (prefix_len test ps) ps ≡ s ∷ more → test s ≡ false
stops_at test ps s more is =
    let n : ℕ = prefix_len test ps in
    let size : length (drop n ps) ≡ length ps - n = length-drop n ps in
    let some : length (drop n ps) ≡ suc (length more) = ap length is in
    let here : get_or ps n 0 ≡ s =
    ap (λ (k : ℕ). get_or ps k 0) (let z : n ≡ n + 0 = omega arith in z) ∙ (sym (get_or-drop n ps 0 0) ∙ ap (λ xs. get_or xs 0 0) is) in
    ap test (sym here) ∙ prefix_len_stops test ps 0 (omega arith)

-- the leaves over which it goes on pass one of two tests
count_by_tests : (test one other : ℕ → Bool) (ps : List ℕ) → ((p : ℕ) → Contains ps p → test p ≡ true → (one p ≡ true) ⊎ (other p ≡ true))
    → prefix_len test ps ≤ length (filter one ps) + length (filter other ps)
count_by_tests test one other [] passes = omega arith
count_by_tests test one other (p ∷ ps) passes =
    grind (arith, later_member, first_member, count_by_tests test one other ps (λ q at is. passes q (later_member p ps q at) is))

longer : (test : ℕ → Bool) (xs ys : List ℕ) → length (filter test ys) ≤ length (filter test (xs ++ ys))
longer test xs ys = omega (arith, ap length (filter-append test xs ys), length-append (filter test xs) (filter test ys))

-- a leaf that comes after the descent's, over which the walk goes on, holds a pair in the range or has none
holds_or_empty : (file : File) (from to : List ℕ) (p : ℕ) → ((pair : StoredPair) → Contains (pairs_of file p) pair → less pair.key from ≡ false)
    → goes_on file to p ≡ true
    → (holds_between file from to p ≡ true) ⊎ (is_empty file p ≡ true)
holds_or_empty file from to p upper on = grind (arith, passes_here, first_member)

pub walks_are_short : WalksAreShort
unfolding holding_leaves empty_leaves
walks_are_short file root from to leaf split =
    let few : prefix_len (goes_on file to) split.after ≤ length (filter (holds_between file from to) split.after) + length
    (filter (is_empty file) split.after) =
    count_by_tests (goes_on file to) (holds_between file from to) (is_empty file) split.after
    (λ p at on. holds_or_empty file from to p (λ pair its. split.upper p pair at its) on) in
    let front : List ℕ = split.before ++ (leaf ∷ []) in
    let all : leaves file root ≡ front ++ split.after = split.are ∙ sym (append_assoc split.before (leaf ∷ []) split.after) in
    let holding : length (filter (holds_between file from to) split.after) ≤ length (filter (holds_between file from to) (leaves file root)) =
    subst (λ xs. length (filter (holds_between file from to) split.after) ≤ length (filter (holds_between file from to) xs)) (sym all)
    (longer (holds_between file from to) front split.after) in
    let empty : length (filter (is_empty file) split.after) ≤ length (filter (is_empty file) (leaves file root)) =
    subst (λ xs. length (filter (is_empty file) split.after) ≤ length (filter (is_empty file) xs)) (sym all) (longer (is_empty file) front split.after) in
    omega arith

-- Keys don't fall.

after_falls : (xs ys : List StoredPair) → DontFall (xs ++ ys) → DontFall ys
after_falls [] ys fall = fall
after_falls (x ∷ xs) ys fall = after_falls xs ys fall.1

first_least : (pair other : StoredPair) (pairs : List StoredPair) → DontFall (pair ∷ pairs) → Contains (pair ∷ pairs) other → less other.key pair.key ≡ false
first_least pair other pairs fall at = grind (arith, member_cases, less_self)

-- once a leaf begins at or past the bound, no key from there on is less
past_bound : (file : File) (to : List ℕ) (s : ℕ) (more : List ℕ) → DontFall (flat_map (pairs_of file) (s ∷ more)) → goes_on file to s ≡ false
    → (p : ℕ) (pair : StoredPair) → Contains (s ∷ more) p → Contains (pairs_of file p) pair → less pair.key to ≡ false
past_bound file to s more fall stop p pair at its =
    by (pairs_of file s) fall stop (in_flat_map (pairs_of file) (s ∷ more) p pair at its)
  where
    by : (pairs : List StoredPair) → DontFall (pairs ++ flat_map (pairs_of file) more) → begins_below to pairs ≡ false
        → Contains (pairs ++ flat_map (pairs_of file) more) pair
        → less pair.key to ≡ false
    by [] fall stop at = absurd cc
    by (first ∷ pairs) fall stop at =
        let least : less pair.key first.key ≡ false = first_least first pair (pairs ++ flat_map (pairs_of file) more) fall at in
        elim (less pair.key to) as (λ b. less pair.key to ≡ b → b ≡ false) [
          | true ↦ λ below. absurd (let less_first : less pair.key first.key ≡ true = less_above pair.key to first.key below stop in cc)
          | false ↦ λ above. refl
        ] refl

tree_falls : (image : List ℕ) (meta : BtreeMeta) → IsForest image → HasMetadata (file_of image) (BtreeFields meta) → is_recno meta ≡ false
    → database_faults (file_of image) (BtreeFields meta) ≡ [] → DontFall (tree_pairs (file_of image) meta.root)
unfolding database_faults
tree_falls image meta forest has keys none =
    let file : File = file_of image in
    dont_fall (tree_pairs file meta.root) (tree_keys image meta.root [])
    (λ two at.
    let q : ℕ = two.1.page in
    let low : q ≤ file.last = tree_pair_inside image meta two.1 forest has (neighbour_in (tree_pairs file meta.root) two at) in
    let codes : holding (database_rows file (BtreeFields meta) q) ≡ [] =
    no_codes_at 8 0 (file.last + 1) q (λ p. holding (database_rows file (BtreeFields meta) p)) none (omega arith) (omega arith) in
    let fail : AllFail (btree_contents file meta q) = all_fail (btree_contents file meta q) (keyed_rows file meta q (is_recno meta) keys codes) in
    let passed : ((two.1.page == q) && is_out_of_order two) ≡ false =
    none_passes (λ (other : StoredPair × StoredPair). (other.1.page == q) && is_out_of_order other) (neighbours (tree_pairs file meta.root)) two fail.1.1.0
    at in
    second_false (two.1.page == q) (is_out_of_order two) (eq-eqb q q refl) passed)

between_parts : (from to key : List ℕ) → lies_between from to key ≡ true → (less key from ≡ false) × (less key to ≡ true)
between_parts from to key is = grind arith

pub walks_cover : WalksCover
unfolding tree_pairs
walks_cover image meta from to leaf forest has keys none split =
    let file : File = file_of image in
    let n : ℕ = prefix_len (goes_on file to) split.after in
    let inside : n ≤ length split.after = walk_inside (goes_on file to) split.after in
    let taken : List ℕ = take n split.after in
    let left : List ℕ = drop n split.after in
    let next : 1 + n ≡ suc n = omega arith in
    let parts : leaves file meta.root ≡ (split.before ++ (leaf ∷ taken)) ++ left =
    split.are ∙ (ap (λ xs. split.before ++ (leaf ∷ xs)) (sym (take-append-drop n split.after)) ∙ sym (append_assoc split.before (leaf ∷ taken) left)) in
    let fall : DontFall (flat_map (pairs_of file) (leaves file meta.root)) = tree_falls image meta forest has keys none in
    let fall_left : DontFall (flat_map (pairs_of file) left) =
    after_falls (flat_map (pairs_of file) (split.before ++ (leaf ∷ taken))) (flat_map (pairs_of file) left)
    (subst DontFall (ap (flat_map (pairs_of file)) parts ∙ flat_map-append (pairs_of file) (split.before ++ (leaf ∷ taken)) left) fall) in
    record {
      before = split.before;
      rest = leaf ∷ split.after;
      are = split.are;
      begins = (split.after, refl);
      there = omega arith;
      all = λ p pair at its is.
          let bounds : (less pair.key from ≡ false) × (less pair.key to ≡ true) = between_parts from to pair.key is in
          let here : Contains ((split.before ++ (leaf ∷ taken)) ++ left) p = subst (λ xs. Contains xs p) parts at in
          subst (λ (k : ℕ). Contains (take k (leaf ∷ split.after)) p) (sym next)
          (elim (Contains-append_cases (split.before ++ (leaf ∷ taken)) left p here) [
            | inl front ↦ elim (Contains-append_cases split.before (leaf ∷ taken) p front) [
              | inl before ↦ absurd (let low : less pair.key from ≡ true = split.lower p pair before its in cc)
              | inr there ↦ there
            ]
            | inr back ↦ absurd (never file to left (goes_on file to) p pair back its fall_left
                (λ s more same. stops_at (goes_on file to) split.after s more same) bounds.1)
          ]);
    }
  where
    never : (file : File) (to : List ℕ) (left : List ℕ) (test : ℕ → Bool) (p : ℕ) (pair : StoredPair) → Contains left p → Contains (pairs_of file p) pair
        → DontFall (flat_map (pairs_of file) left) → ((s : ℕ) (more : List ℕ) → left ≡ s ∷ more → goes_on file to s ≡ false) → less pair.key to ≡ true → ⊥
    never file to [] test p pair at its fall stops below = no_member [] p refl at
    never file to (s ∷ more) test p pair at its fall stops below =
        let above : less pair.key to ≡ false = past_bound file to s more fall (stops s more refl) p pair at its in cc

-- Steps of the walk over leaves.

pub walk_more : (test : ℕ → Bool) (count all leaf n : ℕ) (old new : List ℕ) → old ≡ leaf ∷ new → n ≡ leaf → test n ≡ true → count + prefix_len test old ≡ all
    → count + 1 + prefix_len test new ≡ all
walk_more test count all leaf n old new is same on sum = grind arith

pub first_fits : (file : File) (leaf n : ℕ) (old new : List ℕ) → old ≡ leaf ∷ new → n ≡ leaf → AreLeaves file old → FitsLeafPage file n
first_fits file leaf n old new is same each = subst (FitsLeafPage file) (sym same)
    (let all : AreLeaves file (leaf ∷ new) = subst (AreLeaves file) is each in all.0)

pub rest_fits : (file : File) (leaf : ℕ) (old new : List ℕ) → old ≡ leaf ∷ new → AreLeaves file old → AreLeaves file new
rest_fits file leaf old new is each = let all : AreLeaves file (leaf ∷ new) = subst (AreLeaves file) is each in all.1

pub count_fits : (test : ℕ → Bool) (count leaf n : ℕ) (old new others : List ℕ) → old ≡ leaf ∷ new → n ≡ leaf → test n ≡ true
    → count + prefix_len test old ≡ prefix_len test others
    → length others < 2 ^ 32 → count + 1 < 2 ^ 32
count_fits test count leaf n old new others is same on sum few = grind (arith, walk_more, walk_inside)
