-- Filled leaves with their numbers, and a tree that is one of them.
use Rattle.std.proofs.Common.{◌≡◌, ℕ, ◌<◌, ◌≤◌, Bool, true, false, List, [], ◌∷◌, ◌++◌, length, map, arith, refl, sym, ◌∙◌, ap, subst, inl, inr, true≢false, append-nil, ◌||◌}
use Rattle.bdb_mkleaves.proofs.Common.{All, AllZip, Contains, flat_map, cases_Bool, false_from_ne_true, or_left, or_right, or_cases, map-append, page_so_far, File, page_at, no_member, IsCounted}
use Rattle.bdb_mkleaves.proofs.Common.{IsLater, IsSamePage, Ascend, ContentFits, content_pages, IsBranch, between, of_list, between_is, is_between, same_test, ascend_once, count, ascend_strictly}
use Rattle.bdb_mkleaves.proofs.Common.{Node, is_of, Built, file_so_far, AllStand, AreFilled, all_contents, rest_of, IsTreeLaid, IsNodeOf, entries_on, held_by_leaves, is_laid, tree_pages, contents_of}
use Rattle.bdb_mkleaves.proofs.Common.{LeavesFrom, numbers_of, LeafUnits, Placed, StandsPlaced, entries_of, pages_of, placed_on, LeafType, Leaves}
use Rattle.bdb_mkleaves.proofs.GrownLemmas.{all_joined, as_many, contents_held, laid_leaves, pages_named, zip_all, zip_groups, zip_pages}
use Rattle.bdb_mkleaves.proofs.LaterLemmas.{later_fewer}
use Rattle.bdb_mkleaves.proofs.LeavesLemmas.{leaf_closed}
use Rattle.bdb_mkleaves.proofs.MovedLemmas.{any_order, leaves_rise}
use Rattle.bdb_mkleaves.proofs.RestLemmas.{is_one, is_rest, leaves_low, rest_is}

-- Filled leaves by themselves.

-- what is known of their numbers, and of the units on them
pub record AreNumbered (leaves : Leaves) (old : Built) (before : ℕ) (closed : List (List Placed)) (units : List Placed) : Type 0 where
  pub from : LeavesFrom leaves.leaf_type old 0 (numbers_of leaves) (map (flat_map entries_of) (closed ++ (units ∷ []))) 0
  pub pages_are : pages_of (placed_on leaves closed units) ≡ numbers_of leaves
  pub units_are : flat_map (λ (leaf : LeafUnits). leaf.units) (placed_on leaves closed units) ≡ flat_map (λ leaf. leaf) closed ++ units
  pub groups_are : map (λ (leaf : LeafUnits). leaf.units) (placed_on leaves closed units) ≡ closed ++ (units ∷ [])
  pub within : (p : ℕ) → Contains (numbers_of leaves) p → (before ≤ p) × (p < length old.pages)
  pub rise : Ascend 0 (numbers_of leaves)

pub are_numbered : (leaves : Leaves) (old : Built) (before : ℕ) (closed : List (List Placed)) (units : List Placed)
    → AreFilled leaves old before closed units → AreNumbered leaves old before closed units
are_numbered leaves old before closed units filled =
    let groups : List (List Placed) = closed ++ (units ∷ []) in
    let from : LeavesFrom leaves.leaf_type old 0 (numbers_of leaves) (map (flat_map entries_of) groups) 0 =
    subst (λ es. LeavesFrom leaves.leaf_type old 0 (numbers_of leaves) es 0) (sym (map-append (flat_map entries_of) closed (units ∷ [])))
    (leaf_closed leaves.leaf_type old 0 leaves.closed.items (map (flat_map entries_of) closed) leaves.last 0 (flat_map entries_of units)
    filled.hold.closed_hold filled.hold.after filled.hold.last_holds) in
    let many : length (numbers_of leaves) ≡ length groups = as_many leaves.leaf_type old 0 (numbers_of leaves) groups 0
    (any_order leaves.leaf_type old 0 (numbers_of leaves) (map (flat_map entries_of) groups) 0 from) in
    record {
      from = from;
      pages_are = zip_pages (numbers_of leaves) groups many;
      units_are = zip_all (numbers_of leaves) closed units many;
      groups_are = zip_groups (numbers_of leaves) groups many;
      within = λ p at.
          let is = is_one (numbers_of leaves) p at in
          (filled.new p is, (leaves_low leaves old (map (flat_map entries_of) closed) (flat_map entries_of units) filled.hold p is).0);
      rise = leaves_rise leaves.leaf_type old 0 (numbers_of leaves) (map (flat_map entries_of) groups) 0 from;
    }

-- what all units hold is what the leaves do
contents_on : (leaves : Leaves) (old : Built) (before : ℕ) (closed : List (List Placed)) (units : List Placed)
    → AreNumbered leaves old before closed units
    → all_contents leaves.leaf_type closed units
    ≡ flat_map (λ (leaf : LeafUnits). contents_of leaves.leaf_type (entries_on leaf)) (placed_on leaves closed units)
contents_on leaves old before closed units known =
    contents_held leaves.leaf_type (placed_on leaves closed units) (flat_map (λ leaf. leaf) closed ++ units) known.units_are

-- One leaf, the root itself.

pub leaf_is_laid : (leaves : Leaves) (built : Built) (before : ℕ) (closed : List (List Placed)) (units : List Placed) (node : Node)
    → AreFilled leaves built before closed units → AllZip (IsNodeOf leaves.leaf_type) (placed_on leaves closed units) (node ∷ [])
    → (g : File) → IsCounted g → IsLater (between before (length built.pages)) (file_so_far built) g
    → IsTreeLaid leaves.leaf_type g (rest_of before leaves built) (placed_on leaves closed units) (node ∷ []) [] node
    × ((p : ℕ) → is_laid (rest_of before leaves built) (placed_on leaves closed units) [] p ≡ between before (length built.pages) p)
leaf_is_laid leaves built before closed units node filled zip g counted later =
    let type : LeafType = leaves.leaf_type in
    let placed : List LeafUnits = placed_on leaves closed units in
    let numbers : List ℕ = numbers_of leaves in
    let rest : ℕ → Bool = rest_of before leaves built in
    let a : ℕ = length built.pages in
    let known : AreNumbered leaves built before closed units = are_numbered leaves built before closed units filled in
    let stand : AllStand type g rest closed units = filled.stands g counted
    (later_fewer (file_so_far built) g rest (between before a)
    (λ p is. let here = rest_is before a numbers p is in is_between before a p here.0 here.1) later) in
    let contents : all_contents type closed units ≡ flat_map (λ (leaf : LeafUnits). contents_of type (entries_on leaf)) placed =
    contents_on leaves built before closed units known in
    let names : flat_map content_pages (all_contents type closed units) ≡ held_by_leaves type placed =
    ap (flat_map content_pages) contents ∙ pages_named type placed in
    let all_pages : tree_pages placed [] ≡ numbers = append-nil (pages_of placed) ∙ known.pages_are in
    let at_leaf : (p : ℕ) → Contains numbers p → (1 ≤ p) × (p ≤ g.last) × (rest p ≡ false) = λ p at.
    let within = known.within p at in
    let low = filled.low in
    let up = later.grows in (
      omega (arith, low, within.0),
      omega (arith, within.1, up),
      false_from_ne_true (rest p) (λ is. true≢false (sym (is_one numbers p at) ∙ (rest_is before a numbers p is).2)),
    ) in (
      record {
        no_queue = counted.no_queue;
        leaves = laid_leaves type built g 0 numbers (closed ++ (units ∷ []))
            (any_order type built 0 numbers (map (flat_map entries_of) (closed ++ (units ∷ []))) 0 known.from)
            (λ p at.
            let within = known.within p at in
            subst (λ page. IsSamePage page (page_at g p)) (page_so_far built p within.1) (later.same p (is_between before a p within.0 within.1)))
            (all_joined (StandsPlaced type g) (λ (leaf : LeafUnits). leaf.units) placed
            (subst (All (StandsPlaced type g)) (sym known.units_are) stand.placed));
        inside = λ p at. at_leaf p (subst (λ ps. Contains ps p) all_pages at);
        apart = λ p. subst (λ ps. count p ps ≤ 1) (sym all_pages) (ascend_once 0 p numbers known.rise);
        fit = all_joined (ContentFits g) (λ (leaf : LeafUnits). contents_of type (entries_on leaf)) placed
            (subst (All (ContentFits g)) contents stand.on.fit);
        held = subst (Ascend 0) names (ascend_strictly 0 before a _ filled.low filled.ascend);
        branch = subst (IsBranch g rest) names stand.on.branch;
        nodes_are = zip;
        some = inr refl;
        summed = λ several. absurd (omega (arith, several));
        tower = refl;
      },
      λ p. same_test (is_laid rest placed [] p) (between before a p)
          (λ is. elim (or_cases (rest p || is_of (pages_of placed) p) (is_of [] p) is) [
            | inl below ↦ elim (or_cases (rest p) (is_of (pages_of placed) p) below) [
              | inl one ↦ let here = rest_is before a numbers p one in is_between before a p here.0 here.1
              | inr leaf ↦
                  let within = known.within p (subst (λ ps. Contains ps p) known.pages_are (of_list (pages_of placed) p leaf)) in
                  is_between before a p within.0 within.1
            ]
            | inr none ↦ absurd (no_member [] p refl (of_list [] p none))
          ])
          (λ is.
          let within = between_is before a p is in
          or_left (rest p || is_of (pages_of placed) p) (is_of [] p)
          (elim (cases_Bool (is_of numbers p)) [
            | inl leaf ↦ or_right (rest p) (is_of (pages_of placed) p) (subst (λ ps. is_of ps p ≡ true) (sym known.pages_are) leaf)
            | inr none ↦ or_left (rest p) (is_of (pages_of placed) p) (is_rest before a numbers p within.0 within.1 none)
          ])),
    )
