-- A tree that is finished is the part of its database.
use Rattle.std.proofs.Common.{Bool, ◌≡◌, ℕ, ◌+◌, ◌≤◌, true, false, cond, List, [], ◌∷◌, ◌++◌, length, map, arith, refl, sym, ◌∙◌, ap, subst, inl, inr}
use Rattle.std.proofs.Math.Path.{fun_ext}
use Rattle.bdb_mktree.proofs.Common.{All, AllZip, flat_map, and_parts, cases_Bool, ltb-true, All-cons, All-head, All-nil, All-tail, Kind, Btree, Recno, Settings, BtreeFields, File, ascends}
use Rattle.bdb_mktree.proofs.Common.{btree_kind, counts_records, has_duplicates, is_fixed, is_recno, is_sorted, settings_of, map_joined, IsCounted, IsLater, Built, file_so_far, AreFilled, rest_of}
use Rattle.bdb_mktree.proofs.Common.{HasFirstRoot, HasLaidTree, Counts, first_leaf, numbers_of, HasLength, IsAllowed, IsPlacedBySize, LeafUnits, Placed, PlacedEntry, PlacedPairs, PlacedTree}
use Rattle.bdb_mktree.proofs.Common.{has_several, has_wrong_root, unit_of, values_in, CountsLeaves, key_of, list_of_units, LeafType, Leaves, finished_trees_have_size, all_joined, contents_held}
use Rattle.bdb_mktree.proofs.Common.{all_units, rest_is, Building, IsTreeBuilt, all_placed, units_of, Suits, is_counted, leaf_type_of, TreeBuilder}
use Rattle.bdb_text_format.specs.of_format.declared.kinds.Order.{Order}
use Rattle.bdb_text_format.specs.of_format.declared.metadata.BtreeMeta.{BtreeMeta}
use Rattle.bdb_mkleaves.specs.of_law_grove.Part.{IsPart, between}
use Rattle.bdb_mkleaves.proofs.of_law_grove.ChainLemmas.{is_between}
use Rattle.bdb_mkleaves.specs.Laid.{Suits as SuitsTree}
use Rattle.bdb_mkleaves.specs.Layout.{HasTreeOn, HaveTreesOn, IsTreeOn, contents_below, placed_below}
use Rattle.bdb_mkleaves.specs.Placed.{units_in}
use Rattle.bdb_mkleaves.specs.Spread.{tree_size}
use Rattle.bdb_mkleaves.specs.declared.leaf_type.LeafType.TheVariants.{Pairs, Records}
use Rattle.bdb_mkleaves.proofs.FinishedLaws.{finished_trees_keep_pages}
use Rattle.bdb_mkleaves.proofs.GrownLaws.{first_roots_are_laid}
use Rattle.bdb_mkleaves.proofs.KeptLemmas.{finished_trees_are_formed, finished_trees_keep_older_pages}
use Rattle.bdb_mkleaves.proofs.LaidPartLemmas.{laid_trees_are_parts}
use Rattle.bdb_mkleaves.proofs.LayoutLemmas.{finished_trees_are_laid_out, finished_trees_keep_trees}
use Rattle.bdb_mkleaves.proofs.LaterLemmas.{later_chain, later_fewer}
use Rattle.bdb_mktree.proofs.BuildingLemmas.{building_read}

-- What metadata with some settings says.

record SaysBtree (meta : BtreeMeta) (settings : Settings) : Type 0 where
  kind : is_recno meta ≡ false
  duplicates : has_duplicates (BtreeFields meta) ≡ settings.duplicates
  sorted : is_sorted (BtreeFields meta) ≡ settings.sorted
  counted : counts_records meta ≡ settings.recnum

says_btree : (size : ℕ) (order : Order) (meta : BtreeMeta) (settings : Settings) → settings_of size order (BtreeFields meta) ≡ settings
    → settings.kind ≡ Btree → SaysBtree meta settings
says_btree size order meta settings is btree = grind (arith, cases_Bool)

record SaysRecno (meta : BtreeMeta) (settings : Settings) : Type 0 where
  kind : is_recno meta ≡ true
  fixed : is_fixed meta ≡ settings.fixed
  long : meta.re_len ≡ settings.re_len

says_recno : (size : ℕ) (order : Order) (meta : BtreeMeta) (settings : Settings) → settings_of size order (BtreeFields meta) ≡ settings
    → settings.kind ≡ Recno → SaysRecno meta settings
says_recno size order meta settings is recno = grind (arith, cases_Bool)

-- Units that suit the settings.

several : (size : ℕ) (settings : Settings) (unit : Placed) → Suits settings (unit_of unit) → IsPlacedBySize size unit → settings.duplicates ≡ false
    → has_several unit ≡ false
several size settings (PlacedEntry entry) suits sizes single = refl
several size settings (PlacedPairs key first []) suits sizes single = refl
several size settings (PlacedPairs key first (next ∷ more)) suits sizes single = absurd (omega (arith, suits.single single))
several size settings (PlacedTree key root values) suits sizes single = grind (arith, ltb-true, and_parts)

in_order : (settings : Settings) (unit : Placed) → Suits settings (unit_of unit) → settings.sorted ≡ true → ascends (values_in (unit_of unit)) ≡ true
in_order settings (PlacedEntry entry) suits sorted = refl
in_order settings (PlacedPairs key first more) suits sorted = suits.in_order sorted
in_order settings (PlacedTree key root values) suits sorted = suits.in_order sorted

are_allowed : (g : File) (size : ℕ) (settings : Settings) (units : List Placed) → All (Suits settings) (map unit_of units)
    → All (IsPlacedBySize size) units
    → All (λ unit. has_wrong_root g settings.sorted unit ≡ false) units → All (IsAllowed g settings.duplicates settings.sorted) units
are_allowed g size settings [] suit sizes roots = All-nil (IsAllowed g settings.duplicates settings.sorted)
are_allowed g size settings (unit ∷ units) suit sizes roots =
    let suits = All-head (Suits settings) (unit_of unit) (map unit_of units) suit in
    let by_size = All-head (IsPlacedBySize size) unit units sizes in
    All-cons (IsAllowed g settings.duplicates settings.sorted) unit units
    (record {
      several = several size settings unit suits by_size;
      in_order = in_order settings unit suits;
      root = All-head (λ unit. has_wrong_root g settings.sorted unit ≡ false) unit units roots;
    })
    (are_allowed g size settings units (All-tail (Suits settings) (unit_of unit) (map unit_of units) suit)
    (All-tail (IsPlacedBySize size) unit units sizes)
    (All-tail (λ unit. has_wrong_root g settings.sorted unit ≡ false) unit units roots))

has_length : (settings : Settings) (n : ℕ) (unit : Placed) → settings.fixed ≡ true → n ≡ settings.re_len → Suits settings (unit_of unit)
    → HasLength n unit
has_length settings n (PlacedEntry entry) fixed is suits = λ live. suits.long fixed live ∙ sym is
has_length settings n (PlacedPairs key first more) fixed is suits = tt
has_length settings n (PlacedTree key root values) fixed is suits = tt

have_lengths : (settings : Settings) (n : ℕ) (units : List Placed) → settings.fixed ≡ true → n ≡ settings.re_len
    → All (Suits settings) (map unit_of units) → All (HasLength n) units
have_lengths settings n [] fixed is suit = All-nil (HasLength n)
have_lengths settings n (unit ∷ units) fixed is suit =
    All-cons (HasLength n) unit units (has_length settings n unit fixed is (All-head (Suits settings) (unit_of unit) (map unit_of units) suit))
    (have_lengths settings n units fixed is (All-tail (Suits settings) (unit_of unit) (map unit_of units) suit))

-- The tree.

-- the units on leaves, of which each has some
all_on : (placed : List LeafUnits) (groups : List (List Placed)) → map (λ (leaf : LeafUnits). leaf.units) placed ≡ groups
    → flat_map (λ (leaf : LeafUnits). leaf.units) placed ≡ flat_map (λ leaf. leaf) groups
all_on [] groups is = ap (flat_map (λ leaf. leaf)) is
all_on (leaf ∷ placed) groups is =
    ap (λ us. leaf.units ++ us) (all_on placed (map (λ (leaf : LeafUnits). leaf.units) placed) refl) ∙ ap (flat_map (λ leaf. leaf)) is

rest_between : (leaves : Leaves) (old new : Built) (first : ℕ) → length old.pages ≤ length new.pages → (p : ℕ) → rest_of first leaves old p ≡ true
    → between first (length new.pages) p ≡ true
rest_between leaves old new first grows p rest = grind (arith, rest_is, is_between)

-- the pages that stood and are no leaves stand in later files than the finished tree
rest_later : (leaves : Leaves) (old new : Built) (counted : Bool) (first : ℕ) (closed : List (List Placed)) (units : List Placed) (root : ℕ)
    (g : File)
    → AreFilled leaves old first closed units → HasFirstRoot leaves old new counted closed units root → length old.pages ≤ length new.pages
    → IsLater (between first (length new.pages)) (file_so_far new) g → IsLater (rest_of first leaves old) (file_so_far old) g
rest_later leaves old new counted first closed units root g filled (is, inl one) grows later = grind (arith, later_fewer, rest_between)
rest_later leaves old new counted first closed units root g filled (is, inr on) grows later =
    later_chain (file_so_far old) (file_so_far new) g (rest_of first leaves old)
    ((finished_trees_keep_pages leaves old new counted closed units root on).0 (rest_of first leaves old)
    (λ p rest. let parts = rest_is first (length old.pages) (numbers_of leaves) p rest in (parts.1, parts.2)))
    (later_fewer (file_so_far new) g (rest_of first leaves old) (between first (length new.pages))
    (rest_between leaves old new first grows)
    later)

-- the part with the list of its units
finished_part : (builder : TreeBuilder) (old new : Built) (root : ℕ) → (building : Building builder old)
    → HasFirstRoot builder.leaves old new (is_counted builder.settings.kind builder.settings.recnum) building.closed building.units root
    → length old.pages ≤ length new.pages
    → (g : File) (meta : BtreeMeta) → IsCounted g → IsLater (between (first_leaf builder.leaves) (length new.pages)) (file_so_far new) g
    → settings_of new.size new.order (BtreeFields meta) ≡ builder.settings → meta.root ≡ root
    → IsPart g (record {
      pages = between (first_leaf builder.leaves) (length new.pages);
      fields = BtreeFields meta;
      list = list_of_units builder.settings.kind (units_of builder old);
    })
finished_part builder old new root building has grows g meta counted later says names =
    let on_leaves : (P : Placed → Type 0) → All P all → All (λ (leaf : LeafUnits). All P leaf.units) tree.placed = λ P each.
    all_joined P (λ (leaf : LeafUnits). leaf.units) tree.placed (subst (All P) (sym placed_is) each) in
    let counts_of : (t : LeafType) → is_counted settings.kind settings.recnum ≡ true → type ≡ t → AllZip (Counts t) tree.placed tree.nodes = λ t is same.
    subst (λ t. AllZip (Counts t) tree.placed tree.nodes) same
    (subst (λ c. CountsLeaves c type tree.placed tree.nodes) is tree.counts) in
    let by_kind : SuitsTree type g meta tree.placed tree.nodes
    × (list_of_units (btree_kind meta) (units_in tree.placed) ≡ list_of_units settings.kind (units_of builder old)) =
    elim building.kind [
      | inl btree ↦
          let said = says_btree new.size new.order meta settings says btree in
          let leaf : type ≡ Pairs = building.type ∙ ap leaf_type_of btree in (
            subst (λ t. SuitsTree t g meta tree.placed tree.nodes) (sym leaf)
                (record {
                  kind = said.kind;
                  keys = ap (λ us. ascends (map key_of us)) units_are ∙ building.keys btree;
                  allowed =
                      on_leaves (IsAllowed g (has_duplicates (BtreeFields meta)) (is_sorted (BtreeFields meta)))
                      (subst (λ d. All (IsAllowed g d (is_sorted (BtreeFields meta))) all) (sym said.duplicates)
                      (subst (λ s. All (IsAllowed g settings.duplicates s) all) (sym said.sorted)
                      (are_allowed g old.size settings all building.suit building.counted.filled.sizes
                      (building.roots g counted
                      (rest_later builder.leaves old new (is_counted settings.kind settings.recnum) first building.closed building.units root g
                      building.counted.filled has grows later)))));
                  counts = λ told.
                      counts_of Pairs
                      (ap (λ k. is_counted k settings.recnum) btree ∙ (sym said.counted ∙ told)) leaf;
                }),
            list_is (btree_kind meta) (ap (λ b. cond b Recno Btree) said.kind ∙ sym btree),
          )
      | inr recno ↦
          let said = says_recno new.size new.order meta settings says recno in
          let leaf : type ≡ Records = building.type ∙ ap leaf_type_of recno in (
            subst (λ t. SuitsTree t g meta tree.placed tree.nodes) (sym leaf)
                (record {
                  kind = said.kind;
                  lengths = λ fixed.
                      on_leaves (HasLength meta.re_len)
                      (have_lengths settings meta.re_len all (sym said.fixed ∙ fixed) said.long building.suit);
                  counts = counts_of Records (ap (λ k. is_counted k settings.recnum) recno) leaf;
                }),
            list_is (btree_kind meta) (ap (λ b. cond b Recno Btree) said.kind ∙ sym recno),
          )
    ] in
    rw (← fun_ext tree.pages, ← by_kind.1)
    (laid_trees_are_parts type g rest tree.placed tree.nodes tree.above tree.top meta tree.laid (names ∙ sym tree.top_is) by_kind.0)
  where
    settings : Settings
    settings = builder.settings

    first : ℕ
    first = first_leaf builder.leaves

    type : LeafType
    type = builder.leaves.leaf_type

    rest : ℕ → Bool
    rest = rest_of first builder.leaves old

    all : List Placed
    all = all_placed building.closed building.units

    tree : HasLaidTree type g rest first (length new.pages) (is_counted settings.kind settings.recnum) (building.closed ++ (building.units ∷ [])) root
    tree = first_roots_are_laid builder.leaves old new (is_counted settings.kind settings.recnum) first building.closed building.units root
        building.counted.filled has g counted later

    placed_is : flat_map (λ (leaf : LeafUnits). leaf.units) tree.placed ≡ all
    placed_is = all_on tree.placed (building.closed ++ (building.units ∷ [])) tree.units_are ∙ all_units building.closed building.units

    units_are : units_in tree.placed ≡ map unit_of all
    units_are = sym (map_joined unit_of (λ (leaf : LeafUnits). leaf.units) tree.placed) ∙ ap (map unit_of) placed_is

    list_is : (kind : Kind) → kind ≡ settings.kind → list_of_units kind (units_in tree.placed) ≡ list_of_units settings.kind (units_of builder old)
    list_is kind same =
        ap (λ k. list_of_units k (units_in tree.placed)) same ∙ ap (list_of_units settings.kind)
        (units_are ∙ sym (building_read builder old building))

-- it is laid out, and so are the trees of its units' data
trees_laid_out : (builder : TreeBuilder) (old new : Built) (root : ℕ) → (building : Building builder old)
    → HasFirstRoot builder.leaves old new (is_counted builder.settings.kind builder.settings.recnum) building.closed building.units root
    → (on : IsTreeOn (leaf_type_of builder.settings.kind) new (between (first_leaf builder.leaves) (length new.pages))
    (is_counted builder.settings.kind builder.settings.recnum) (units_of builder old) root)
    × HaveTreesOn (leaf_type_of builder.settings.kind) new (between (first_leaf builder.leaves) (length new.pages)) on.tree
trees_laid_out builder old new root building has =
    let counted : Bool = is_counted builder.settings.kind builder.settings.recnum in
    let first : ℕ = first_leaf builder.leaves in
    let pages : ℕ → Bool = between first (length new.pages) in
    let type : LeafType = builder.leaves.leaf_type in
    let all : List Placed = all_placed building.closed building.units in
    let laid : (on : IsTreeOn type new pages counted (map unit_of all) root)
    × (map (λ (leaf : LeafUnits). leaf.units) on.tree.placed ≡ building.closed ++ (building.units ∷ [])) =
    finished_trees_are_laid_out builder.leaves old new counted first building.closed building.units root building.counted.filled
    building.counted.spread has in
    let placed_is : placed_below laid.0.tree ≡ all =
    all_on laid.0.tree.placed (building.closed ++ (building.units ∷ [])) laid.1 ∙ all_units building.closed building.units in
    rw (building_read builder old building, ← building.type) (
      laid.0,
      subst (λ us. All (HasTreeOn new pages (contents_below type laid.0.tree)) us) (sym
          placed_is) (subst (λ cs. All (HasTreeOn new pages cs) all) (contents_held type laid.0.tree.placed all placed_is) (finished_trees_keep_trees
          builder.leaves old new counted first building.closed building.units root building.counted.filled has)),
    )

pub tree_built : (builder : TreeBuilder) (old new : Built) (root : ℕ) → (building : Building builder old)
    → HasFirstRoot builder.leaves old new (is_counted builder.settings.kind builder.settings.recnum) building.closed building.units root
    → IsTreeBuilt builder.settings (first_leaf builder.leaves) old new (units_of builder old)
    (list_of_units builder.settings.kind (units_of builder old)) root
tree_built builder old new root building has =
    let counted : Bool = is_counted builder.settings.kind builder.settings.recnum in
    let first : ℕ = first_leaf builder.leaves in
    let older = finished_trees_keep_older_pages builder.leaves old new counted first building.closed building.units root building.counted.filled has in
    let laid = trees_laid_out builder old new root building has in
    record {
      root_is = has.0;
      count =
          finished_trees_have_size builder.settings.sorted builder.leaves old new counted first building.closed building.units root building.counted has
          ∙ (ap (λ t. first + tree_size t old.size builder.settings.sorted (map unit_of (all_placed building.closed building.units))) building.type
          ∙ (ap (λ us. first + tree_size (leaf_type_of builder.settings.kind) old.size builder.settings.sorted us)
          (sym (building_read builder old building))
          ∙ ap (λ n. first + tree_size (leaf_type_of builder.settings.kind) n builder.settings.sorted (units_of builder old)) (sym older.size)));
      kept = older;
      laid_out = laid.0;
      sets_laid_out = laid.1;
      formed = finished_trees_are_formed builder.leaves old new counted first building.closed building.units root building.counted.filled has;
      part = finished_part builder old new root building has older.grows;
    }
