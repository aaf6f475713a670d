-- A tree that is laid is the part of a database.
use Rattle.std.proofs.Common.{◌≡◌, ℕ, ◌/◌, ◌<◌, Bool, true, false, not, cond, List, [], ◌∷◌, append-nil, map, length, Some, None, arith, refl, sym, ◌∙◌, ap, subst, inl, inr, ◌==◌, ◌&&◌}
use Rattle.bdb_mkleaves.proofs.Common.{All, Contains, flat_map, list_any, and_right, length-map, All-contains, All-head, BtreeMeta, Root, BtreeFields, File, ListKey, Meta, StoredPair, ascends}
use Rattle.bdb_mkleaves.proofs.Common.{btree_contents, btree_kind, children_in, counts_records, database_rows, entries_in, first_row, fit_rows, has_duplicate, has_duplicates, has_type, has_unsorted}
use Rattle.bdb_mkleaves.proofs.Common.{has_wrong_count, has_wrong_record, has_wrong_separator, has_wrong_set, inner_in, inner_pages, is_fixed, is_out_of_order, is_sorted, is_wrong_at, leaves, list_of}
use Rattle.bdb_mkleaves.proofs.Common.{neighbours, page_at, pairs_of, recno_contents, root_types, tree_pairs, type_in, value_of, flat_map_twice, only_member, first_member, none_pass, of_map, IsBranch}
use Rattle.bdb_mkleaves.proofs.Common.{IsPart, entrance_asks, has_wrong_place, fits_asked, one_at_most, BeginsWith, Follow, entries_below, pairs_below, leaf_types, HasLeaves, IsTower, Node, Keyed}
use Rattle.bdb_mkleaves.proofs.Common.{type_number, key_of, list_of_units, Counts, HasUnits, IsKeyOf, IsTreeLaid, IsNodeOf, LaidTreesAreParts, SuitsBtree, SuitsRecno, entries_on, inner_of, is_laid}
use Rattle.bdb_mkleaves.proofs.Common.{HasLength, HoldsUnits, LeafUnits, Placed, PlacedEntry, PlacedPairs, PlacedTree, StandsPlaced, entries_of, pages_of, pairs_on, unit_of, units_in, LeafType, Pairs}
use Rattle.bdb_mkleaves.proofs.Common.{Records, SortedData}
use Rattle.bdb_places.specs.of_format.declared.kinds.Kind.TheVariants.{Btree, Recno}
use Rattle.bdb_places.specs.of_format.ByPage.{holding}
use Rattle.bdb_places.proofs.of_format.VerdictLemmas.{AllFail, none_holds}
use Rattle.bdb_law_levels.specs.Contents.{AreLeaves}
use Rattle.bdb_law_levels.proofs.ContentLemmas.{counts_of_records, counts_of_towers, separators_of_towers}
use Rattle.bdb_mkleaves.proofs.LaidBranchLemmas.{laid_trees_are_branches}
use Rattle.bdb_mkleaves.proofs.LaidLemmas.{at_bottom, both_zip, have_leaves, hold_units, laid_trees_are_linked, laid_trees_have_leaves, node_leaves, of_leaves, root_type_is}
use Rattle.bdb_mkleaves.proofs.LaidSetLemmas.{entries_are}
use Rattle.bdb_mkleaves.proofs.PlacedLaws.{unless, pairs_follow, records_keep_length, units_are_listed, units_keep_rules}
use Rattle.bdb_mkleaves.proofs.HeldLemmas.{length-pairs_from}

-- Leaves and their nodes.

childless : (type : LeafType) (g : File) (leaf : LeafUnits) (node : Node) → IsNodeOf type leaf node → HoldsUnits type g leaf
    → children_in (page_at g node.page) ≡ None
childless type g leaf node is holds = ap (λ p. children_in (page_at g p)) is.page ∙ (at_bottom type g leaf holds).childless

are_leaves : (type : LeafType) (g : File) (rest : ℕ → Bool) (placed : List LeafUnits) (nodes : List Node) (above : List (List Node)) (root : Node)
    → IsTreeLaid type g rest placed nodes above root → AreLeaves g nodes
are_leaves type g rest placed nodes above root laid =
    of_leaves (IsNodeOf type) (HoldsUnits type g) (λ node. children_in (page_at g node.page) ≡ None) (childless type g) placed nodes laid.nodes_are
    (hold_units type g 0 placed laid.leaves)

-- what is below the node of a leaf is what the leaf holds
below_leaf : {X : Type 0} (type : LeafType) (f : ℕ → List X) (leaf : LeafUnits) (node : Node) → IsNodeOf type leaf node
    → flat_map f node.leaves ≡ f leaf.page
below_leaf type f leaf node is = ap (flat_map f) is.leaves ∙ append-nil (f leaf.page)

-- Keys.

-- a node has the key of the first unit of its leaf
first_key : (g : File) (unit : Placed) (units : List Placed) (node : Node) → StandsPlaced Pairs g unit
    → IsKeyOf Keyed (flat_map entries_of (unit ∷ units)) node.key → value_of g node.key ≡ key_of (unit_of unit)
first_key g (PlacedEntry entry) units node stands is = absurd stands
first_key g (PlacedPairs key first more) units node stands is = ap (value_of g) is.0 ∙ stands.0.value
first_key g (PlacedTree key root values) units node stands is = ap (value_of g) is.0 ∙ stands.0.value

begins_with : (g : File) (p : ℕ) (units : List Placed) (node : Node) → HoldsUnits Pairs g (record { page = p; units = units })
    → 0 < length units → IsNodeOf Pairs (record { page = p; units = units }) node → BeginsWith g node (pairs_below g node)
begins_with g p [] node holds some is = absurd (omega arith)
begins_with g p (unit ∷ units) node holds some is =
    (pairs_follow g).1 node p unit units holds is.leaves
    (first_key g unit units node (All-head (StandsPlaced Pairs g) unit units holds.stand) is.key)

-- Counts.

pairs_counted : (g : File) (leaf : LeafUnits) → HoldsUnits Pairs g leaf → length (pairs_of g leaf.page) ≡ length (entries_on leaf) / 2
unfolding pairs_of
pairs_counted g leaf holds = grind (arith, length-pairs_from)

pair_count : (g : File) (leaf : LeafUnits) (node : Node) → IsNodeOf Pairs leaf node × Counts Pairs leaf node → HoldsUnits Pairs g leaf
    → node.count ≡ length (pairs_below g node)
pair_count g leaf node both holds = both.1 ∙ (sym (pairs_counted g leaf holds) ∙ ap length (sym (below_leaf Pairs (pairs_of g) leaf node both.0)))

entry_count : (g : File) (leaf : LeafUnits) (node : Node) → IsNodeOf Records leaf node × Counts Records leaf node → HoldsUnits Records g leaf
    → node.count ≡ length (entries_below g node)
entry_count g leaf node both holds =
    let entries = entries_are Records g leaf.page holds.previous holds.next (entries_on leaf) (λ same. absurd cc) holds.is_leaf in
    both.1 ∙ sym (ap length (below_leaf Records (λ p. entries_in (page_at g p)) leaf node both.0 ∙ entries) ∙ length-map (entries_on leaf) _)

-- Internal pages.

-- a root without levels below it is a leaf
no_inner : (type : LeafType) (g : File) (rest : ℕ → Bool) (placed : List LeafUnits) (nodes : List Node) (above : List (List Node)) (root : Node)
    → IsTreeLaid type g rest placed nodes above root → above ≡ [] → inner_pages g root.page ≡ []
unfolding inner_pages
no_inner type g rest placed nodes above root laid none =
    let alone : nodes ≡ root ∷ [] = subst (λ levels. IsTower (inner_of type) g 1 nodes levels root) none laid.tower in
    let level = All-head (HasLeaves g 1) root [] (subst (All (HasLeaves g 1)) alone (have_leaves type g rest placed nodes above root laid)) in
    let leaf : children_in (page_at g root.page) ≡ None =
    All-head (λ (node : Node). children_in (page_at g node.page) ≡ None) root []
    (subst (AreLeaves g) alone (are_leaves type g rest placed nodes above root laid)) in
    ap (λ n. inner_in n g (root.page ∷ [])) level.level_is ∙ rw leaf refl

separators_right : (g : File) (rest : ℕ → Bool) (placed : List LeafUnits) (nodes : List Node) (above : List (List Node)) (root : Node) (p : ℕ)
    → IsTreeLaid Pairs g rest placed nodes above root → ascends (map key_of (units_in placed)) ≡ true
    → is_wrong_at g (has_wrong_separator g) (inner_pages g root.page) p ≡ false
separators_right g rest placed nodes above root p laid ascend =
    let hold : All (HoldsUnits Pairs g) placed = hold_units Pairs g 0 placed laid.leaves in
    elim laid.some [
      | inl some ↦
          separators_of_towers g 1 p nodes above root laid.tower (are_leaves Pairs g rest placed nodes above root laid)
          (have_leaves Pairs g rest placed nodes above root laid)
          (of_leaves (IsNodeOf Pairs) (λ leaf. HoldsUnits Pairs g leaf × HasUnits leaf) (λ node. BeginsWith g node (pairs_below g node))
          (λ leaf node is both. begins_with g leaf.page leaf.units node both.0 both.1 is) placed nodes laid.nodes_are
          (λ k d low. (hold k d low, some k d low)))
          (subst Follow (ap (flat_map (pairs_of g)) (sym (node_leaves Pairs placed nodes laid.nodes_are))
          ∙ flat_map_twice (pairs_of g) (λ (node : Node). node.leaves) nodes) ((pairs_follow g).0 placed hold ascend))
      | inr none ↦ ap (λ ps. is_wrong_at g (has_wrong_separator g) ps p) (no_inner Pairs g rest placed nodes above root laid none)
    ]

-- The rows.

btree_rows : (g : File) (rest : ℕ → Bool) (placed : List LeafUnits) (nodes : List Node) (above : List (List Node)) (root : Node) (meta : BtreeMeta)
    (p : ℕ) → IsTreeLaid Pairs g rest placed nodes above root → meta.root ≡ root.page → SuitsBtree g meta placed nodes → AllFail (btree_contents g meta p)
unfolding tree_pairs
btree_rows g rest placed nodes above root meta p laid is suits =
    let duplicates : Bool = has_duplicates (BtreeFields meta) in
    let sorted : Bool = is_sorted (BtreeFields meta) in
    let hold : All (HoldsUnits Pairs g) placed = hold_units Pairs g 0 placed laid.leaves in
    let pairs : tree_pairs g meta.root ≡ pairs_on g placed =
    ap (tree_pairs g) is ∙ ap (flat_map (pairs_of g)) (laid_trees_have_leaves Pairs g rest placed nodes above root laid) in
    let keeps = units_keep_rules g duplicates sorted placed p hold suits.keys suits.allowed in (
      ap (λ ps. not duplicates && has_duplicate ps p) pairs ∙ keeps.single,
      (
        ap (λ ps. has_wrong_set g sorted ps p) pairs ∙ keeps.kinds,
        (
          ap (λ ps. list_any (λ (two : StoredPair × StoredPair). two.1.page == p && is_out_of_order two) (neighbours ps)) pairs ∙ keeps.keys_ascend,
          (
            ap (λ r. is_wrong_at g (has_wrong_separator g) (inner_pages g r) p) is
                ∙ separators_right g rest placed nodes above root p laid suits.keys,
            (
              ap (λ ps. sorted && has_unsorted g ps p) pairs ∙ keeps.data_ascend,
              (
                unless (counts_records meta) (is_wrong_at g (has_wrong_count g) (inner_pages g meta.root) p)
                    (λ counting.
                    ap (λ r. is_wrong_at g (has_wrong_count g) (inner_pages g r) p) is
                    ∙ counts_of_towers g 1 p nodes above root laid.tower (are_leaves Pairs g rest placed nodes above root laid)
                    (have_leaves Pairs g rest placed nodes above root laid)
                    (of_leaves (λ leaf node. IsNodeOf Pairs leaf node × Counts Pairs leaf node) (HoldsUnits Pairs g)
                    (λ node. node.count ≡ length (pairs_below g node)) (pair_count g) placed nodes
                    (both_zip (IsNodeOf Pairs) (Counts Pairs) placed nodes laid.nodes_are (suits.counts counting)) hold)),
                tt,
              ),
            ),
          ),
        ),
      ),
    )

recno_rows : (g : File) (rest : ℕ → Bool) (placed : List LeafUnits) (nodes : List Node) (above : List (List Node)) (root : Node) (meta : BtreeMeta)
    (p : ℕ) → IsTreeLaid Records g rest placed nodes above root → meta.root ≡ root.page → SuitsRecno meta placed nodes → AllFail (recno_contents g meta p)
recno_rows g rest placed nodes above root meta p laid is suits =
    let hold : All (HoldsUnits Records g) placed = hold_units Records g 0 placed laid.leaves in (
      ap (λ r. is_wrong_at g (has_wrong_count g) (inner_pages g r) p) is
          ∙ counts_of_records g 1 p nodes above root laid.tower (are_leaves Records g rest placed nodes above root laid)
          (have_leaves Records g rest placed nodes above root laid)
          (of_leaves (λ leaf node. IsNodeOf Records leaf node × Counts Records leaf node) (HoldsUnits Records g)
          (λ node. node.count ≡ length (entries_below g node)) (entry_count g) placed nodes
          (both_zip (IsNodeOf Records) (Counts Records) placed nodes laid.nodes_are suits.counts) hold),
      (
        unless (is_fixed meta) (is_wrong_at g (has_wrong_record g meta) (leaves g meta.root) p)
            (λ fixed.
            ap (λ r. is_wrong_at g (has_wrong_record g meta) (leaves g r) p) is
            ∙ (ap (λ ps. is_wrong_at g (has_wrong_record g meta) ps p) (laid_trees_have_leaves Records g rest placed nodes above root laid)
            ∙ none_pass (λ q. q == p && has_wrong_record g meta (page_at g q)) (pages_of placed) (λ q at.
            let found = of_map (λ (leaf : LeafUnits). leaf.page) placed q at in
            and_right (q == p) (has_wrong_record g meta (page_at g q))
            (subst (λ x. has_wrong_record g meta (page_at g x) ≡ false) found.2
            (records_keep_length g meta found.0 (All-contains (HoldsUnits Records g) placed found.0 hold found.1)
            (All-contains (λ (leaf : LeafUnits). All (HasLength meta.re_len) leaf.units) placed found.0 (suits.lengths fixed) found.1)))))),
        tt,
      ),
    )

-- The part.

part_of : (type : LeafType) (g : File) (rest : ℕ → Bool) (placed : List LeafUnits) (nodes : List Node) (above : List (List Node)) (root : Node)
    (meta : BtreeMeta) (list : List (ListKey × List ℕ)) → IsTreeLaid type g rest placed nodes above root → meta.root ≡ root.page
    → has_type (root_types (Meta (BtreeFields meta))) (type_in (page_at g root.page)) ≡ true
    → has_type (leaf_types Root) (Some (type_number type)) ≡ true
    → ((p : ℕ) → holding (database_rows g (BtreeFields meta) p) ≡ []) → list_of g (BtreeFields meta) ≡ list
    → IsPart g (record { pages = is_laid rest placed above; fields = BtreeFields meta; list = list })
part_of type g rest placed nodes above root meta list laid is typed bottom contents listed =
    let branch : IsBranch g (is_laid rest placed above) (root.page ∷ []) = laid_trees_are_branches type g rest placed nodes above root laid in
    let there : is_laid rest placed above root.page ≡ true = branch.grove.entered root.page (first_member root.page []) in
    let same : (e : ℕ) → Contains (meta.root ∷ []) e → root.page ≡ e = λ e at. sym is ∙ only_member meta.root e at in
    record {
      branch = subst (λ r. IsBranch g (is_laid rest placed above) (r ∷ [])) (sym is) branch;
      entered = record {
        fit = λ e at. subst (λ x. first_row (fit_rows g (entrance_asks (BtreeFields meta)) x) ≡ None) (same e at)
            (fits_asked g (entrance_asks (BtreeFields meta)) root.page (branch.grove.low root.page there)
            (branch.grove.high root.page there) typed refl refl);
        once = λ e. one_at_most (λ other. other == e) meta.root;
      };
      trees = λ e at. subst (λ x. has_wrong_place g Root x ≡ false) (same e at)
          (laid_trees_are_linked type g rest placed nodes above root Root laid bottom);
      contents = contents;
      list = listed;
    }

pub laid_trees_are_parts : LaidTreesAreParts
laid_trees_are_parts Pairs g rest placed nodes above root meta laid is suits =
    let have = ap (leaves g) is ∙ laid_trees_have_leaves Pairs g rest placed nodes above root laid in
    part_of Pairs g rest placed nodes above root meta (list_of_units (btree_kind meta) (units_in placed)) laid is
    (ap (λ b. has_type (cond b (4 ∷ 6 ∷ []) (3 ∷ 5 ∷ [])) (type_in (page_at g root.page))) suits.kind
    ∙ root_type_is Pairs g rest placed nodes above root laid (has_type (3 ∷ 5 ∷ [])) true refl refl)
    refl
    (λ p. ap (λ b. holding (cond b (recno_contents g meta p) (btree_contents g meta p))) suits.kind
    ∙ none_holds (btree_contents g meta p) (btree_rows g rest placed nodes above root meta p laid is suits))
    ((units_are_listed g meta placed have).0 suits.kind (hold_units Pairs g 0 placed laid.leaves)
    ∙ ap (λ b. list_of_units (cond b Recno Btree) (units_in placed)) (sym suits.kind))
laid_trees_are_parts Records g rest placed nodes above root meta laid is suits =
    let have = ap (leaves g) is ∙ laid_trees_have_leaves Records g rest placed nodes above root laid in
    part_of Records g rest placed nodes above root meta (list_of_units (btree_kind meta) (units_in placed)) laid is
    (ap (λ b. has_type (cond b (4 ∷ 6 ∷ []) (3 ∷ 5 ∷ [])) (type_in (page_at g root.page))) suits.kind
    ∙ root_type_is Records g rest placed nodes above root laid (has_type (4 ∷ 6 ∷ [])) true refl refl)
    refl
    (λ p. ap (λ b. holding (cond b (recno_contents g meta p) (btree_contents g meta p))) suits.kind
    ∙ none_holds (recno_contents g meta p) (recno_rows g rest placed nodes above root meta p laid is suits))
    ((units_are_listed g meta placed have).1 suits.kind (hold_units Records g 0 placed laid.leaves)
    ∙ ap (λ b. list_of_units (cond b Recno Btree) (units_in placed)) (sym suits.kind))
laid_trees_are_parts SortedData g rest placed nodes above root meta laid is suits = absurd suits
