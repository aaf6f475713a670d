-- Finished trees are laid out, and the heads of their chains count their references.
use Rattle.std.proofs.Common.{◌≡◌, ℕ, ◌-◌, ◌<◌, Bool, true, List, [], ◌∷◌, ◌++◌, length, map, arith, refl, sym, ◌∙◌, ap, subst, inl, inr, false, true≢false}
use Rattle.bdb_mkleaves.proofs.Common.{All, AllZip, Contains, flat_map, range_with_len, flat_map-append, All-contains, Contains-append_cases, Contains-append_left, Contains-append_right, map-map}
use Rattle.bdb_mkleaves.proofs.Common.{Content, File, Tree, byte_at, file_of, has_type, head_of, is_wrong_set, page_bytes, only_member, no_member, of_flat_map, of_range, IsCounted, IsLater, between}
use Rattle.bdb_mkleaves.proofs.Common.{is_between, ascend_bounds, InnerType, Keyed, Numbered, Node, key_heads, Built, bytes_of, file_so_far, counted_so_far, AreFilled, AreSpreadOver, all_contents}
use Rattle.bdb_mkleaves.proofs.Common.{rest_of, FinishedTreesAreLaidOut, FinishedTreesKeepTrees, HasRootOn, HasLiveKeys, IsKeyOf, IsTreeLaid, IsNodeOf, entries_on, inner_of, is_laid, HasPagesOf}
use Rattle.bdb_mkleaves.proofs.Common.{HasTreeIn, HasTreeOn, HeadCounts, IsLevelPage, IsTreeIn, IsTreeOn, TreeParts, TreesAreIn, TreesAreSorted, contents_below, heads_named, leaf_heads, placed_below}
use Rattle.bdb_mkleaves.proofs.Common.{contents_of, KeepsBefore, first_of, heads_of, first_leaf, numbers_of, second_leaf, IsPlacedBySize, LeafUnits, Placed, PlacedEntry, PlacedPairs, PlacedTree}
use Rattle.bdb_mkleaves.proofs.Common.{entries_of, unit_of, CountsOneFrom, CountsLeaves, leaf_with, placed_on, zip_units, AreSpreadLevels, named_heads, set_type, spread_units, levels_to, TreeUnit}
use Rattle.bdb_mkleaves.proofs.Common.{page_room, LeafType, Records, SortedData, Leaves}
use Rattle.bdb_places.specs.of_format.Terms.{entries_of as count_on}
use Rattle.bdb_law_levels.specs.Roots.{pages_of as level_pages}
use Rattle.bdb_mkleaves.specs.Layout.{live_entry}
use Rattle.bdb_mkleaves.proofs.FilledLemmas.{later_self}
use Rattle.bdb_mkleaves.proofs.FinishLemmas.{zero_at}
use Rattle.bdb_mkleaves.proofs.FinishedLaws.{finished_trees_are_laid, finished_trees_keep_pages}
use Rattle.bdb_mkleaves.proofs.FinishedLemmas.{first_two, moved_from, one_moved}
use Rattle.bdb_mkleaves.proofs.GrownLemmas.{as_many, contents_held, zip_all, zip_groups}
use Rattle.bdb_mkleaves.proofs.KeptLemmas.{finished_trees_keep_older_pages}
use Rattle.bdb_mkleaves.proofs.LaidBranchLemmas.{key_first}
use Rattle.bdb_mkleaves.proofs.LaidLemmas.{root_type_is}
use Rattle.bdb_mkleaves.proofs.LastingLemmas.{has_tree_stays, head_one, heads_one}
use Rattle.bdb_mkleaves.proofs.LaterLemmas.{later_chain, later_fewer}
use Rattle.bdb_mkleaves.proofs.NumberedLemmas.{are_numbered, leaf_is_laid}
use Rattle.bdb_mkleaves.proofs.RestLemmas.{is_one, rest_is}
use Rattle.bdb_mkleaves.proofs.RunLemmas.{all_map}

-- Heads of chains.

-- the heads of the leaves are those that their contents name
heads_held : (type : LeafType) (placed : List LeafUnits) (closed : List (List Placed)) (units : List Placed)
    → flat_map (λ (leaf : LeafUnits). leaf.units) placed ≡ flat_map (λ leaf. leaf) closed ++ units
    → leaf_heads type placed ≡ flat_map key_heads (all_contents type closed units)
heads_held type placed closed units is = ap (flat_map key_heads) (sym (contents_held type placed (flat_map (λ leaf. leaf) closed ++ units) is))

-- the heads that the keys of nodes name are among them
key_held : (type : LeafType) (leaf : LeafUnits) (key : Content) (h : ℕ) → IsKeyOf Keyed (entries_on leaf) key → Contains (key_heads key) h
    → Contains (flat_map key_heads (contents_of type (entries_on leaf))) h
key_held type leaf key h is at =
    elim (key_first type leaf.units key is) [
      | inl inline ↦ absurd (no_member [] h refl (subst (λ k. Contains (key_heads k) h) inline.1 at))
      | inr first ↦ subst (λ cs. Contains (flat_map key_heads cs) h) (sym first.1)
          (Contains-append_left (key_heads key) (flat_map key_heads first.0) h at)
    ]

node_heads : (inner : InnerType) (type : LeafType) (placed : List LeafUnits) (nodes : List Node) (h : ℕ) → inner_of type ≡ inner
    → AllZip (IsNodeOf type) placed nodes → Contains (flat_map (heads_of inner) nodes) h → Contains (leaf_heads type placed) h
node_heads Numbered type placed nodes h is zip at = absurd (no_member [] h refl (of_flat_map (heads_of Numbered) nodes h at).2)
node_heads Keyed type [] [] h is zip at = absurd (no_member [] h refl at)
node_heads Keyed type [] (node ∷ nodes) h is zip at = absurd zip
node_heads Keyed type (leaf ∷ placed) [] h is zip at = absurd zip
node_heads Keyed type (leaf ∷ placed) (node ∷ nodes) h is (here, zip) at =
    let contents : List Content = contents_of type (entries_on leaf) in
    let others : List Content = flat_map (λ (other : LeafUnits). contents_of type (entries_on other)) placed in
    subst (λ hs. Contains hs h) (sym (flat_map-append key_heads contents others))
    (elim (Contains-append_cases (key_heads node.key) (flat_map (heads_of Keyed) nodes) h at) [
      | inl first ↦ Contains-append_left (flat_map key_heads contents) (flat_map key_heads others) h
          (key_held type leaf node.key h (subst (λ i. IsKeyOf i (entries_on leaf) node.key) is here.key) first)
      | inr later ↦ Contains-append_right (flat_map key_heads contents) (flat_map key_heads others) h
          (node_heads Keyed type placed nodes h is zip later)
    ])

-- Trees.

-- the units of leaves are spread over them
leaves_spread : (placed : List LeafUnits) (size : ℕ) (closed : List (List Placed)) (units : List Placed) → AreSpreadOver size closed units
    → map (λ (leaf : LeafUnits). leaf.units) placed ≡ closed ++ (units ∷ [])
    → map (λ (leaf : LeafUnits). map unit_of leaf.units) placed ≡ spread_units size (map unit_of (flat_map (λ leaf. leaf) closed ++ units))
leaves_spread placed size closed units spread is =
    sym (map-map (map unit_of) (λ (leaf : LeafUnits). leaf.units) placed) ∙ (ap (map (map unit_of)) is ∙ sym spread)

-- a tree in each later file, of so many pages, is one that stands
tree_on : (leaves : Leaves) (old new : Built) (counted : Bool) (before : ℕ) (closed : List (List Placed)) (units : List Placed) (root : ℕ)
    (tree : TreeParts) → AreFilled leaves old before closed units → AreSpreadOver old.size closed units → KeepsBefore before old new
    → map (λ (leaf : LeafUnits). leaf.units) tree.placed ≡ closed ++ (units ∷ [])
    → flat_map (λ (leaf : LeafUnits). leaf.units) tree.placed ≡ flat_map (λ leaf. leaf) closed ++ units
    → CountsLeaves counted leaves.leaf_type tree.placed tree.nodes
    → AreSpreadLevels (inner_of leaves.leaf_type) (page_room new.size) tree.nodes tree.above → tree.top.page ≡ root
    → ((g : File) → IsCounted g → IsLater (between before (length new.pages)) (file_so_far new) g
    → IsTreeLaid leaves.leaf_type g (rest_of before leaves old) tree.placed tree.nodes tree.above tree.top
    × ((p : ℕ) → is_laid (rest_of before leaves old) tree.placed tree.above p ≡ between before (length new.pages) p))
    → ((h : ℕ) → Contains (leaf_heads leaves.leaf_type tree.placed) h
    → HeadCounts new (between before (length new.pages)) (heads_named leaves.leaf_type new.size tree) h)
    → ((p : ℕ) → Contains (level_pages tree.above) p → IsLevelPage new (between before (length new.pages)) p)
    → (on : IsTreeOn leaves.leaf_type new (between before (length new.pages)) counted (map unit_of (flat_map (λ leaf. leaf) closed ++ units)) root)
    × (map (λ (leaf : LeafUnits). leaf.units) on.tree.placed ≡ closed ++ (units ∷ []))
tree_on leaves old new counted before closed units root tree filled spread keeps groups_are units_are counts levels top laid heads live =
    let first = ascend_bounds before (length old.pages) _ filled.ascend in
    let low = filled.low in
    let grows = keeps.grows in (
      record {
        tree = tree;
        root_is = top;
        out = record {
          spread = subst (λ n. map (λ (leaf : LeafUnits). map unit_of leaf.units) tree.placed
              ≡ spread_units n (map unit_of (flat_map (λ leaf. leaf) closed ++ units))) (sym keeps.size)
              (leaves_spread tree.placed old.size closed units spread groups_are);
          sizes = subst (λ n. All (IsPlacedBySize n) (flat_map (λ (leaf : LeafUnits). leaf.units) tree.placed)) (sym keeps.size)
              (subst (All (IsPlacedBySize old.size)) (sym units_are) filled.sizes);
          counts = counts;
          levels = levels;
        };
        rest = rest_of before leaves old;
        first = before;
        beyond = length new.pages;
        all = (laid (file_so_far new) (counted_so_far new (omega (arith, first, low, grows))) (later_self new (between before (length new.pages)))).1;
        stands = λ g is_counted later. (laid g is_counted later).0;
        heads = heads;
        levels = live;
      },
      groups_are,
    )

-- of several leaves, the heads count as the levels name them
several_heads : (leaves : Leaves) (old new : Built) (counted : Bool) (before : ℕ) (closed : List (List Placed)) (units : List Placed) (root : ℕ)
    → AreFilled leaves old before closed units → (on : HasRootOn leaves old new counted closed units root)
    → flat_map (λ (leaf : LeafUnits). leaf.units) (placed_on on.next closed units) ≡ flat_map (λ leaf. leaf) closed ++ units
    → (h : ℕ) → Contains (leaf_heads leaves.leaf_type (placed_on on.next closed units)) h
    → HeadCounts new (between before (length new.pages))
    (named_heads (inner_of leaves.leaf_type) (page_room on.between.size) on.nodes (levels_to on.tower.levels on.tower.top)) h
several_heads leaves old new counted before closed units root filled on units_are h at =
    let type : LeafType = leaves.leaf_type in
    let mid : Built = on.between in
    let (content, among, head) = of_flat_map key_heads (all_contents type closed units) h
    (subst (λ hs. Contains hs h) (heads_held type (placed_on on.next closed units) closed units units_are) at) in
    let was : CountsOneFrom before old content = All-contains (CountsOneFrom before old)
    (all_contents type closed units) content filled.heads among in
    let moved : CountsOneFrom before mid content =
    one_moved leaves on.next old mid before (map (flat_map entries_of) closed) (flat_map entries_of units) content on.several filled.hold on.moved was
    in
    let (low, under, one) = head_one before mid content h moved head in
    let other : h ≡ first_leaf leaves → ⊥ =
    λ same.
    let blank : byte_at (bytes_of mid h) 25 ≡ 0 =
    ap (λ k. byte_at (bytes_of mid k) 25) same ∙ (ap (λ bs. byte_at bs 25) on.moved.blank ∙ zero_at old.size 25) in
    let seven = one.type_is in
    omega (arith, blank, seven) in
    let grows = on.tower.grows in
    record {
      there = is_between before (length new.pages) h low (omega (arith, under, grows));
      low = omega (arith, under, grows);
      one = λ out. ap (λ o. count_on o (bytes_of new h)) on.tower.order
          ∙ (ap (count_on mid.order) (on.tower.counts.same h (under, other) out) ∙ one.one);
      two = λ named. on.tower.counts.two h (under, other) named;
    }

-- and its levels are among the pages since the leaves were begun
several_levels : (leaves : Leaves) (old new : Built) (counted : Bool) (before : ℕ) (closed : List (List Placed)) (units : List Placed) (root : ℕ)
    → AreFilled leaves old before closed units → (on : HasRootOn leaves old new counted closed units root)
    → (p : ℕ) → Contains (level_pages (levels_to on.tower.levels on.tower.top)) p → IsLevelPage new (between before (length new.pages)) p
several_levels leaves old new counted before closed units root filled on p at =
    let n : ℕ = length on.between.pages in
    let b : ℕ = length new.pages in
    let first : ℕ = first_leaf leaves in
    let more = on.moved.count in
    let grows = on.tower.grows in
    let known = (are_numbered leaves old before closed units filled).within first (first_two leaves on.several).0 in
    let all : level_pages (levels_to on.tower.levels on.tower.top) ≡ range_with_len n (b - n) ++ (first ∷ []) =
    flat_map-append (map (λ (node : Node). node.page)) on.tower.levels ((on.tower.top ∷ []) ∷ [])
    ∙ (ap (λ ps. ps ++ (on.tower.top.page ∷ [])) on.tower.numbers ∙ ap (λ q. range_with_len n (b - n) ++ (q ∷ [])) on.tower.top_is) in
    elim (Contains-append_cases (range_with_len n (b - n)) (first ∷ []) p (subst (λ ps. Contains ps p) all at)) [
      | inl range ↦
          let is = of_range n (b - n) p range in
          let low : p < b = omega (arith, is.0, is.1, grows) in
          record { there = is_between before b p (omega (arith, is.0, known.0, known.1, more)) low; low = low; live = on.tower.live p is.0 low }
      | inr top ↦
          let same : first ≡ p = only_member first p top in
          let low : p < b = omega (arith, same, known.1, more, grows) in
          record {
            there = is_between before b p (omega (arith, same, known.0)) low;
            low = low;
            live = subst (λ q. HasLiveKeys new.order (bytes_of new q)) same on.tower.root_live;
          }
    ]

pub finished_trees_are_laid_out : FinishedTreesAreLaidOut
finished_trees_are_laid_out leaves old new counted before closed units root filled spread (is, inl one) =
    let type : LeafType = leaves.leaf_type in
    let leaf : LeafUnits = leaf_with leaves.last units in
    let placed : List LeafUnits = placed_on leaves closed units in
    let alone : leaf ∷ [] ≡ placed =
    sym (ap (λ ns. zip_units (ns ++ (leaves.last ∷ [])) (closed ++ (units ∷ []))) one.numbers
    ∙ ap (λ groups. zip_units (leaves.last ∷ []) (groups ++ (units ∷ []))) one.closed_is) in
    let known = are_numbered leaves old before closed units filled in
    subst (λ (b : Built).
    (on : IsTreeOn type b (between before (length b.pages)) counted (map unit_of (flat_map (λ leaf. leaf) closed ++ units)) root)
    × (map (λ (other : LeafUnits). other.units) on.tree.placed ≡ closed ++ (units ∷ [])))
    (sym one.same)
    (tree_on leaves old old counted before closed units root
    (record { placed = placed; nodes = one.node ∷ []; above = []; top = one.node }) filled spread
    (record { size = refl; order = refl; grows = omega arith; same = λ p low. refl })
    known.groups_are known.units_are (subst (λ ps. CountsLeaves counted type ps (one.node ∷ [])) alone one.counts) refl
    (one.node_is.page ∙ (sym (ap (λ ns. first_of ns leaves.last) one.numbers) ∙ sym is))
    (leaf_is_laid leaves old before closed units one.node filled
    (subst (λ ps. AllZip (IsNodeOf type) ps (one.node ∷ [])) alone (one.node_is, tt)))
    (λ h at.
    let (low, under, counts) = heads_one before old (all_contents type closed units) h filled.heads
    (subst (λ hs. Contains hs h) (heads_held type placed closed units known.units_are) at) in
    record {
      there = is_between before (length old.pages) h low under;
      low = under;
      one = λ out. counts.one;
      two = λ named. absurd (no_member [] h refl named);
    })
    (λ p at. absurd (no_member [] p refl at)))
finished_trees_are_laid_out leaves old new counted before closed units root filled spread (is, inr on) =
    let type : LeafType = leaves.leaf_type in
    let groups : List (List Placed) = closed ++ (units ∷ []) in
    let numbers : List ℕ = numbers_of on.next in
    let above : List (List Node) = levels_to on.tower.levels on.tower.top in
    let placed : List LeafUnits = placed_on on.next closed units in
    let many = as_many type on.between 0 numbers groups 0 (moved_from leaves on.next old on.between before closed units filled on.moved) in
    let units_are = zip_all numbers closed units many in
    tree_on leaves old new counted before closed units root
    (record { placed = placed; nodes = on.nodes; above = above; top = on.tower.top }) filled spread
    (finished_trees_keep_older_pages leaves old new counted before closed units root filled (is, inr on))
    (zip_groups numbers groups many) units_are on.counts
    (subst (λ n. AreSpreadLevels (inner_of type) (page_room n) on.nodes above) (sym on.tower.size) on.tower.spread)
    (on.tower.top_is ∙ sym is)
    (finished_trees_are_laid leaves old new counted before closed units root filled on)
    (subst (λ n. (h : ℕ) → Contains (leaf_heads type placed) h
    → HeadCounts new (between before (length new.pages)) (named_heads (inner_of type) (page_room n) on.nodes above) h) (sym on.tower.size)
    (several_heads leaves old new counted before closed units root filled on units_are))
    (several_levels leaves old new counted before closed units root filled on)

-- The trees of data.

pub finished_trees_keep_trees : FinishedTreesKeepTrees
finished_trees_keep_trees leaves old new counted before closed units root filled (is, inl one) =
    let type : LeafType = leaves.leaf_type in
    let all : List Placed = flat_map (λ leaf. leaf) closed ++ units in
    let rest : ℕ → Bool = rest_of before leaves old in
    let contents : List Content = all_contents type closed units in
    let within : (p : ℕ) → rest p ≡ true → between before (length old.pages) p ≡ true =
    λ p at. let here = rest_is before (length old.pages) (numbers_of leaves) p at in is_between before (length old.pages) p here.0 here.1 in
    subst (λ (b : Built). All (HasTreeOn b (between before (length b.pages)) contents) all) (sym one.same)
    (all_map (λ unit has. has_tree_stays old old rest (between before (length old.pages)) contents contents unit refl refl
    (λ g later. later_fewer (file_so_far old) g rest (between before (length old.pages)) within later)
    (λ h at under out. (within h at, under, refl, out)) has) all filled.trees)
finished_trees_keep_trees leaves old new counted before closed units root filled (is, inr on) =
    let type : LeafType = leaves.leaf_type in
    let all : List Placed = flat_map (λ leaf. leaf) closed ++ units in
    let m : ℕ = length old.pages in
    let b : ℕ = length new.pages in
    let numbers : List ℕ = numbers_of leaves in
    let rest : ℕ → Bool = rest_of before leaves old in
    let contents : List Content = all_contents type closed units in
    let count = on.moved.count in
    let grows = on.tower.grows in
    let two = first_two leaves on.several in
    let many = as_many type on.between 0 (numbers_of on.next) (closed ++ (units ∷ [])) 0
    (moved_from leaves on.next old on.between before closed units filled on.moved) in
    let named : (h : ℕ) → Contains (flat_map (heads_of (inner_of type)) on.nodes) h → Contains (flat_map key_heads contents) h =
    λ h at. subst (λ hs. Contains hs h)
    (heads_held type (placed_on on.next closed units) closed units (zip_all (numbers_of on.next) closed units many))
    (node_heads (inner_of type) type (placed_on on.next closed units) on.nodes h refl on.nodes_are at) in
    let within : (p : ℕ) → rest p ≡ true → between before b p ≡ true =
    λ p at. let here = rest_is before m numbers p at in is_between before b p here.0 (omega (arith, here.1, count, grows)) in
    let no_leaf : (p q : ℕ) → rest p ≡ true → Contains numbers q → p ≡ q → ⊥ =
    λ p q at leaf e. true≢false (sym (is_one numbers p (subst (Contains numbers) (sym e) leaf)) ∙ (rest_is before m numbers p at).2) in
    all_map (λ unit has. has_tree_stays old new rest (between before b) contents contents unit (on.tower.size ∙ on.moved.size)
    (on.tower.order ∙ on.moved.order)
    (λ g later. later_chain (file_so_far old) (file_so_far new) g rest
    ((finished_trees_keep_pages leaves old new counted closed units root on).0 rest
    (λ p at. let here = rest_is before m numbers p at in (here.1, here.2)))
    (later_fewer (file_so_far new) g rest (between before b) within later))
    (λ h at under out. (
      within h at,
      omega (arith, under, count, grows),
      on.tower.kept h (omega (arith, under, count)) (no_leaf h (first_leaf leaves) at two.0) (λ key. out (named h key))
          ∙ on.moved.same h under (no_leaf h (first_leaf leaves) at two.0) (no_leaf h (second_leaf leaves) at two.1),
      out,
    )) has) all filled.trees

-- the root of a set of the other kind has a wrong type
other_wrong : (sorted asked : Bool) (g : File) (rest : ℕ → Bool) (placed : List LeafUnits) (nodes : List Node) (above : List (List Node)) (top : Node)
    → IsTreeLaid (set_type sorted) g rest placed nodes above top → is_wrong_set g asked (Tree top.page) ≡ false → sorted ≡ asked
other_wrong true true g rest placed nodes above top laid right = refl
other_wrong false false g rest placed nodes above top laid right = refl
other_wrong true false g rest placed nodes above top laid right =
    absurd (true≢false (sym (root_type_is SortedData g rest placed nodes above top laid (has_type (3 ∷ 12 ∷ [])) true refl refl) ∙ right))
other_wrong false true g rest placed nodes above top laid right =
    absurd (true≢false (sym (root_type_is Records g rest placed nodes above top laid (has_type (4 ∷ 6 ∷ [])) true refl refl) ∙ right))

pub trees_are_sorted : TreesAreSorted
trees_are_sorted built pages contents key root values sorted (kind, on, apart, levels) g is_counted later right = grind (arith, other_wrong)

-- Trees in an image.

tree_in : (type : LeafType) (built : Built) (pages : ℕ → Bool) (counted : Bool) (units : List TreeUnit) (root : ℕ)
    → (on : IsTreeOn type built pages counted units root) → (image : List ℕ) → HasPagesOf built pages image
    → (now : IsTreeIn type image built.size counted units root) × (now.tree ≡ on.tree)
tree_in type built pages counted units root on image has = (
  record {
    tree = on.tree;
    root_is = on.root_is;
    out = on.out;
    rest = on.rest;
    first = on.first;
    beyond = on.beyond;
    all = on.all;
    laid = on.stands (file_of image) has.counted has.later;
    live = λ p at.
        let level = on.levels p at in
        subst (λ o. HasLiveKeys o (page_bytes (head_of image) image p)) (sym has.order)
        (subst (HasLiveKeys built.order) (sym (has.same p level.there level.low)) level.live);
  },
  refl,
)

has_tree_in : (built : Built) (pages : ℕ → Bool) (named : List Content) (unit : Placed) (image : List ℕ) → HasPagesOf built pages image
    → HasTreeOn built pages named unit → HasTreeIn image built.size unit
has_tree_in built pages named (PlacedEntry entry) image has_pages has = tt
has_tree_in built pages named (PlacedPairs key first more) image has_pages has = tt
has_tree_in built pages named (PlacedTree key root values) image has_pages (sorted, on, apart, levels) =
    (sorted, (tree_in (set_type sorted) built pages true (map live_entry values) root on image has_pages).0)

pub trees_are_in : TreesAreIn
trees_are_in type built pages counted units root on have image has =
    let (top, same) = tree_in type built pages counted units root on image has in
    record {
      top = top;
      trees = subst (λ (t : TreeParts). All (HasTreeIn image built.size) (placed_below t)) (sym same)
          (all_map (λ unit stands. has_tree_in built pages (contents_below type on.tree) unit image has stands) (placed_below on.tree) have);
    }
