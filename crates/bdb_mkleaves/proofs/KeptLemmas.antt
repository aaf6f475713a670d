-- What a finished tree leaves of the pages: those since its leaves were begun have no row of form, and older ones stay.
use Rattle.std.proofs.Common.{◌≡◌, ℕ, ◌<◌, ◌≤◌, List, [], ◌∷◌, ◌++◌, drop, length, map, false, None, arith, refl, sym, ◌∙◌, ap, subst, inl, inr, true≢false}
use Rattle.bdb_mkleaves.proofs.Common.{All, AllZip, Contains, flat_map, cases_Bool, cases_eq, cases_lt, All-head, All-tail, File, page_code, first_member, later_member, member_cases, no_member}
use Rattle.bdb_mkleaves.proofs.Common.{content_pages, of_list, Node, is_of, Built, bytes_of, file_so_far, counted_so_far, AllStand, AreFilled, all_contents, rest_of, FinishedTreesAreFormed}
use Rattle.bdb_mkleaves.proofs.Common.{FinishedTreesKeepOlderPages, IsNodeOf, held_by_leaves, inner_of, first_of, heads_of, IsFirstMoved, LinkedFrom, first_leaf, numbers_of, second_leaf, LeafUnits}
use Rattle.bdb_mkleaves.proofs.Common.{Placed, StandsPlaced, entries_of, placed_on, LeafType, Leaves}
use Rattle.bdb_mkleaves.proofs.FilledLemmas.{later_self}
use Rattle.bdb_mkleaves.proofs.FinishedLemmas.{first_two, moved_from, moved_pages, others_of}
use Rattle.bdb_mkleaves.proofs.GrownLemmas.{as_many, contents_held, heads_among, pages_named, zip_all}
use Rattle.bdb_mkleaves.proofs.HeldLemmas.{leaves_are_formed}
use Rattle.bdb_mkleaves.proofs.MovedLemmas.{any_order}
use Rattle.bdb_mkleaves.proofs.NodesLemmas.{all_units, each_leaf}
use Rattle.bdb_mkleaves.proofs.NumberedLemmas.{AreNumbered, are_numbered}
use Rattle.bdb_mkleaves.proofs.PushLemmas.{whole_units}
use Rattle.bdb_mkleaves.proofs.RestLemmas.{is_one, is_rest, rest_is}

-- The form of filled leaves.

leaf_formed : (type : LeafType) (built : Built) (previous : ℕ) (ps : List ℕ) (groups : List (List Placed)) (beyond : ℕ) (g : File)
    → LinkedFrom type built previous ps (map (flat_map entries_of) groups) beyond → All (All (StandsPlaced type g)) groups
    → (p : ℕ) → Contains ps p → page_code built.order p (bytes_of built p) ≡ None
leaf_formed type built previous [] groups beyond g from stand p at = absurd (no_member [] p refl at)
leaf_formed type built previous (q ∷ ps) [] beyond g from stand p at = absurd from
leaf_formed type built previous (q ∷ ps) (units ∷ groups) beyond g (holds, rest) stand p at =
    elim (member_cases q ps p at) [
      | inl here ↦
          subst (λ n. page_code built.order n (bytes_of built n) ≡ None) here
          (leaves_are_formed type built.order (bytes_of built q) q previous (first_of ps beyond) (flat_map entries_of units) holds
          (λ pairs. whole_units g units (subst (λ t. All (StandsPlaced t g) units) pairs (All-head (All (StandsPlaced type g)) units groups stand))))
      | inr later ↦ leaf_formed type built q ps groups beyond g rest (All-tail (All (StandsPlaced type g)) units groups stand) p later
    ]

-- the units of leaves that were begun stand in the file so far
stand_so_far : (leaves : Leaves) (built : Built) (before : ℕ) (closed : List (List Placed)) (units : List Placed)
    → AreFilled leaves built before closed units → AllStand leaves.leaf_type (file_so_far built) (rest_of before leaves built) closed units
stand_so_far leaves built before closed units filled =
    let there = filled.hold.there in
    filled.stands (file_so_far built) (counted_so_far built (omega (arith, there))) (later_self built (rest_of before leaves built))

-- those of each leaf do
units_stand : (leaves : Leaves) (built : Built) (before : ℕ) (closed : List (List Placed)) (units : List Placed)
    → AreFilled leaves built before closed units
    → All (All (StandsPlaced leaves.leaf_type (file_so_far built))) (closed ++ (units ∷ []))
units_stand leaves built before closed units filled =
    each_leaf (StandsPlaced leaves.leaf_type (file_so_far built)) (closed ++ (units ∷ []))
    (subst (All (StandsPlaced leaves.leaf_type (file_so_far built))) (sym (all_units closed units))
    (stand_so_far leaves built before closed units filled).placed)

-- no page since they were begun has a row of form
filled_formed : (leaves : Leaves) (built : Built) (before : ℕ) (closed : List (List Placed)) (units : List Placed)
    → AreFilled leaves built before closed units → (p : ℕ) → before ≤ p → p < length built.pages → page_code built.order p (bytes_of built p) ≡ None
filled_formed leaves built before closed units filled p low high =
    let type : LeafType = leaves.leaf_type in
    let groups : List (List Placed) = closed ++ (units ∷ []) in
    let known : AreNumbered leaves built before closed units = are_numbered leaves built before closed units filled in
    elim (cases_Bool (is_of (numbers_of leaves) p)) [
      | inl leaf ↦
          leaf_formed type built 0 (numbers_of leaves) groups 0 (file_so_far built)
          (any_order type built 0 (numbers_of leaves) (map (flat_map entries_of) groups) 0 known.from)
          (units_stand leaves built before closed units filled) p (of_list (numbers_of leaves) p leaf)
      | inr none ↦ filled.formed p (is_rest before (length built.pages) (numbers_of leaves) p low high none)
    ]

-- nor has one but the first leaf's, where that is moved
moved_formed : (leaves next : Leaves) (old mid : Built) (before : ℕ) (closed : List (List Placed)) (units : List Placed)
    → AreFilled leaves old before closed units → 1 ≤ length leaves.closed.items → IsFirstMoved leaves next old mid
    → (p : ℕ) → before ≤ p → p < length mid.pages → (p ≡ first_leaf leaves → ⊥) → page_code mid.order p (bytes_of mid p) ≡ None
moved_formed leaves next old mid before closed units filled several moved p low high other =
    elim (cases_Bool (is_of (numbers_of next) p)) [
      | inl leaf ↦
          leaf_formed leaves.leaf_type mid 0 (numbers_of next) (closed ++ (units ∷ [])) 0 (file_so_far old)
          (moved_from leaves next old mid before closed units filled moved) (units_stand leaves old before closed units filled)
          p (of_list (numbers_of next) p leaf)
      | inr none ↦
          let (was, now) = moved_pages leaves next old mid several moved in
          let m : ℕ = length old.pages in
          let count = moved.count in
          let absent : Contains (m ∷ others_of leaves) p → ⊥ =
          λ at. true≢false (sym (is_one (numbers_of next) p (subst (λ ns. Contains ns p) (sym now) at)) ∙ none) in
          let under : p < m = elim (cases_lt p m) [
            | inl below ↦ below
            | inr above ↦
                let end : m ≡ p = omega (arith, above, high, count) in
                absurd (absent (subst (Contains (m ∷ others_of leaves)) end (first_member m (others_of leaves))))
          ] in
          let no_leaf : is_of (numbers_of leaves) p ≡ false = elim (cases_Bool (is_of (numbers_of leaves) p)) [
            | inl is ↦
                elim (member_cases (first_leaf leaves) (others_of leaves) p (subst (λ ns. Contains ns p) was (of_list (numbers_of leaves) p is))) [
                  | inl here ↦ absurd (other (sym here))
                  | inr later ↦ absurd (absent (later_member m (others_of leaves) p later))
                ]
            | inr free ↦ free
          ] in
          let no_second : p ≡ second_leaf leaves → ⊥ =
          λ e. absent (later_member m (others_of leaves) p
          (subst (Contains (others_of leaves)) (sym e) (first_member (second_leaf leaves) (drop 2 (numbers_of leaves))))) in
          ap (λ o. page_code o p (bytes_of mid p)) moved.order
          ∙ (ap (page_code old.order p) (moved.same p under other no_second)
          ∙ filled.formed p (is_rest before m (numbers_of leaves) p low under no_leaf))
    ]

pub finished_trees_are_formed : FinishedTreesAreFormed
finished_trees_are_formed leaves old new counted before closed units root filled (is, inl one) p low high = grind (arith, None, filled_formed)
finished_trees_are_formed leaves old new counted before closed units root filled (is, inr on) p low high =
    elim (cases_lt p (length on.between.pages)) [
      | inr above ↦ on.tower.formed p above high
      | inl below ↦ elim (cases_eq p (first_leaf leaves)) [
        | inl top ↦ subst (λ q. page_code new.order q (bytes_of new q) ≡ None) (sym top) on.tower.root_formed
        | inr other ↦
            on.tower.form_kept p below other
            ∙ moved_formed leaves on.next old on.between before closed units filled on.several on.moved p low below other
      ]
    ]

-- Older pages.

-- heads of chains of keys are among the pages since the leaves were begun
heads_new : (leaves : Leaves) (built : Built) (before : ℕ) (closed : List (List Placed)) (units : List Placed) (placed : List LeafUnits)
    (nodes : List Node) (h : ℕ) → AreFilled leaves built before closed units
    → flat_map (λ (leaf : LeafUnits). leaf.units) placed ≡ flat_map (λ leaf. leaf) closed ++ units → AllZip (IsNodeOf leaves.leaf_type) placed nodes
    → Contains (flat_map (heads_of (inner_of leaves.leaf_type)) nodes) h → before ≤ h
heads_new leaves built before closed units placed nodes h filled units_are zip at =
    let type : LeafType = leaves.leaf_type in
    let names : flat_map content_pages (all_contents type closed units) ≡ held_by_leaves type placed =
    ap (flat_map content_pages) (contents_held type placed (flat_map (λ leaf. leaf) closed ++ units) units_are) ∙ pages_named type placed in
    (rest_is before (length built.pages) (numbers_of leaves) h
    ((stand_so_far leaves built before closed units filled).on.branch.grove.entered h
    (subst (λ ps. Contains ps h) (sym names) (heads_among (inner_of type) type placed nodes h refl zip at)))).0

pub finished_trees_keep_older_pages : FinishedTreesKeepOlderPages
finished_trees_keep_older_pages leaves old new counted before closed units root filled (is, inl one) = grind arith
finished_trees_keep_older_pages leaves old new counted before closed units root filled (is, inr on) =
    let mid : Built = on.between in
    let count = on.moved.count in
    let grows = on.tower.grows in
    let known : AreNumbered leaves old before closed units = are_numbered leaves old before closed units filled in
    let two = first_two leaves on.several in
    let first = known.within (first_leaf leaves) two.0 in
    let second = known.within (second_leaf leaves) two.1 in
    let groups : List (List Placed) = closed ++ (units ∷ []) in
    let many = as_many leaves.leaf_type mid 0 (numbers_of on.next) groups 0 (moved_from leaves on.next old mid before closed units filled on.moved) in
    record {
      size = on.tower.size ∙ on.moved.size;
      order = on.tower.order ∙ on.moved.order;
      grows = omega (arith, count, grows);
      same = λ p low.
          on.tower.kept p (omega (arith, low, first.0, first.1, count)) (λ e. omega (arith, e, low, first.0))
          (λ at.
          let high = heads_new leaves old before closed units (placed_on on.next closed units) on.nodes p filled
          (zip_all (numbers_of on.next) closed units many) on.nodes_are at in
          omega (arith, low, high))
          ∙ on.moved.same p (omega (arith, low, first.0, first.1)) (λ e. omega (arith, e, low, first.0)) (λ e. omega (arith, e, low, second.0));
    }
