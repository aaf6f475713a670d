-- The entries of a sound master are its live pairs.
use Rattle.std.proofs.Common.{◌≡◌, ℕ, ◌≤◌, Bool, true, false, cond, List, [], ◌∷◌, map, arith, refl, sym, ◌∙◌, ap, subst}
use Rattle.std.specs.Prelude.{Option, Some, None}
use Rattle.std.specs.List.{Contains, filter, flat_map, range_with_len}
use Rattle.std.specs.Option.{is_some, option_to_list}
use Rattle.std.proofs.lemmas.Bool.{and_from, and_parts, eqb-true}
use Rattle.bdb_apart.specs.of_format.declared.metadata.BtreeMeta.{BtreeMeta}
use Rattle.bdb_apart.specs.of_format.Terms.{BtreeFields, File, Hash, Item, Leaf, Listed, Meta, Page, StoredPair, data_of, file_of, has_type}
use Rattle.bdb_apart.specs.of_format.Terms.{is_recno, leaves, master_in, pairs_in}
use Rattle.bdb_apart.specs.of_format.Terms.{master_pairs, named_by, page_at, page_named, pairs_of, pairs_under, tree_pairs, type_in}
use Rattle.bdb_apart.proofs.of_homes.Homes.{home}
use Rattle.bdb_apart.specs.of_survey.Salvage.{stored_on}
use Rattle.bdb_apart.specs.Given.{is_pair_page}
use Rattle.bdb_apart.specs.Found.{entries, entries_on, entry_of, is_at, is_leaf, is_master_leaf}
use Rattle.bdb_law_homes.proofs.of_format.ListLemmas.{only_member}
use Rattle.bdb_law_homes.proofs.of_format.MemberLemmas.{in_filter, in_flat_map, in_map, in_range, no_member, of_filter, of_flat_map, of_map}
use Rattle.bdb_law_homes.specs.of_image.Linked.{HasMetadata}
use Rattle.bdb_law_homes.proofs.of_graph.ReadLemmas.{master_is, master_keys}
use Rattle.bdb_law_homes.specs.of_law_sums.Databases.{given_on, given_pair}
use Rattle.bdb_law_homes.proofs.of_law_sums.LeafLemmas.{btree_leaf_type}
use Rattle.bdb_law_homes.proofs.of_law_sums.of_tree.TreeLemmas.{leaf_page}
use Rattle.bdb_law_homes.specs.of_law_whole.Guessed.{guessed}
use Rattle.bdb_law_homes.proofs.of_law_whole.PairLemmas.{stored_is}
use Rattle.bdb_law_homes.specs.Owned.{HasTree}
use Rattle.bdb_law_homes.proofs.HavingLemmas.{pair_leaves_have_homes}
use Rattle.bdb_law_homes.proofs.TreeLemmas.{leaves_are_of_btrees}
use Rattle.bdb_law_apart.proofs.MasterLemmas.{Names, NamesPage, has_data, named_data, names_page, one_there}
use Rattle.bdb_law_apart.proofs.SeenLemmas.{IsSeen, below_count, home_is, inside, inside_file, page_is}

-- Pages and pairs.

pub leaf_view : (page : Page) → is_leaf page ≡ true → (view : Listed Item) × (page ≡ Leaf view)
leaf_view (Leaf view) is = (view, refl)
leaf_view page is = absurd cc

pub leaf_typed : (page : Page) → type_in page ≡ Some 5 → has_type (5 ∷ 12 ∷ []) (type_in page) ≡ true
leaf_typed page is = ap (has_type (5 ∷ 12 ∷ [])) is

-- what a pair gives
pub record IsGiven (file : File) (pair : StoredPair) (given : List ℕ × List ℕ) : Type 0 where
  pub live : pair.live ≡ true
  pub key_is : pair.key ≡ given.0
  pub value : Contains (data_of file pair.data_item) given.1

pub of_given : (file : File) (pair : StoredPair) (given : List ℕ × List ℕ) → Contains (given_pair file pair) given → IsGiven file pair given
of_given file pair given at = by_live pair.live refl at
  where
    by_live : (b : Bool) → pair.live ≡ b → Contains (cond b (map (λ value. (pair.key, value)) (data_of file pair.data_item)) []) given
        → IsGiven file pair given
    by_live true is there =
        let found = of_map (λ value. (pair.key, value)) (data_of file pair.data_item) given there in
        record {
          live = is;
          key_is = ap (λ (p : List ℕ × List ℕ). p.0) found.2;
          value = subst (λ (v : List ℕ). Contains (data_of file pair.data_item) v) (ap (λ (p : List ℕ × List ℕ). p.1) found.2) found.1;
        }
    by_live false is none = absurd (no_member [] given refl none)

pub in_given : (file : File) (pair : StoredPair) (value : List ℕ) → pair.live ≡ true → Contains (data_of file pair.data_item) value
    → Contains (given_pair file pair) (pair.key, value)
in_given file pair value live at =
    subst (λ b. Contains {X = List ℕ × List ℕ} (cond b (map (λ value. (pair.key, value)) (data_of file pair.data_item)) []) (pair.key, value)) (sym live)
    (in_map {Y = List ℕ × List ℕ} (λ value. (pair.key, value)) (data_of file pair.data_item) value at)

-- The pairs of a master.

-- a page is the master's
pub record HasMaster (image : List ℕ) (meta : BtreeMeta) : Type 0 where
  pub is : IsSeen image
  pub master : master_in (page_at (file_of image) 0) ≡ Some meta

pub in_master : (image : List ℕ) (meta : BtreeMeta) (q : ℕ) (pair : StoredPair) → HasMaster image meta
    → Contains (leaves (file_of image) meta.root) q → Contains (pairs_of (file_of image) q) pair → pair.live ≡ true
    → Contains (master_pairs (file_of image)) pair
unfolding master_pairs tree_pairs
in_master image meta q pair has leaf at live =
    let file : File = file_of image in
    subst (λ o. Contains (pairs_under file o) pair) (sym has.master)
    (in_filter (λ (one : StoredPair). one.live) (tree_pairs file meta.root) pair
    (in_flat_map (pairs_of file) (leaves file meta.root) q pair leaf at) live)

-- a live pair stands on a leaf of it
pub record StandsOnLeaf (file : File) (meta : BtreeMeta) (pair : StoredPair) : Type 0 where
  pub page : ℕ
  pub leaf : Contains (leaves file meta.root) page
  pub at : Contains (pairs_of file page) pair
  pub live : pair.live ≡ true

pub of_master : (image : List ℕ) (meta : BtreeMeta) (pair : StoredPair) → HasMaster image meta → Contains (master_pairs (file_of image)) pair
    → StandsOnLeaf (file_of image) meta pair
unfolding master_pairs tree_pairs
of_master image meta pair has at =
    let file : File = file_of image in
    let kept = of_filter (λ (one : StoredPair). one.live) (tree_pairs file meta.root) pair (subst (λ o. Contains (pairs_under file o) pair) has.master at) in
    let found = of_flat_map (pairs_of file) (leaves file meta.root) pair kept.0 in
    record { page = found.0; leaf = found.1; at = found.2; live = kept.1 }

pub with_pairs : (file : File) (q : ℕ) (pair : StoredPair) → Contains (pairs_of file q) pair → is_pair_page (page_at file q) ≡ true
unfolding pairs_of
with_pairs file q pair at = by_page (page_at file q) at
  where
    by_page : (page : Page) → Contains (pairs_in file q page) pair → is_pair_page page ≡ true
    by_page (Leaf page) at = refl
    by_page (Hash page) at = refl
    by_page page at = absurd (no_member [] pair refl at)

-- The entries.

-- a pair that is stored on a leaf of the master is a live one
pub record IsOfMaster (image : List ℕ) (given : List ℕ × List ℕ) : Type 0 where
  pub pair : StoredPair
  pub among : Contains (master_pairs (file_of image)) pair
  pub key_is : pair.key ≡ given.0
  pub names : named_by (file_of image) pair.data_item ≡ page_named given.1

master_tree : (image : List ℕ) (meta tree : BtreeMeta) → HasMaster image meta → page_at (file_of image) 0 ≡ Meta (BtreeFields tree) → tree ≡ meta
master_tree image meta tree has page =
    let same : Meta (BtreeFields tree) ≡ Meta (BtreeFields meta) = sym page ∙ master_is (page_at (file_of image) 0) meta has.master in cc

pub leaf_pair : (image : List ℕ) (meta : BtreeMeta) (q : ℕ) (given : List ℕ × List ℕ) → HasMaster image meta
    → is_master_leaf (guessed image) q ≡ true → Contains (stored_on (guessed image) q) given → IsOfMaster image given
leaf_pair image meta q given has leaf at =
    let file : File = file_of image in
    let is : IsSeen image = has.is in
    let parts = and_parts (is_leaf (page_at (guessed image) q)) (is_at 0 (home (guessed image) q)) leaf in
    let low : q ≤ file.last = inside image is_leaf q is refl refl parts.0 in
    let view = leaf_view (page_at file q) (sym (ap is_leaf (page_is image q is low)) ∙ parts.0) in
    let among : Contains (given_on file q) given = subst (λ l. Contains l given) (stored_is image q is.whole is.is.bytes low) at in
    let found = of_flat_map (given_pair file) (pairs_of file q) given among in
    let pair : StoredPair = found.0 in
    let told : IsGiven file pair given = of_given file pair given found.2 in
    let tree : HasTree file q =
    pair_leaves_have_homes image q view.0 is.sound is.levels low view.1 (λ none. no_member (pairs_of file q) pair none found.1) in
    let zero : tree.of.meta ≡ 0 =
    eqb-true tree.of.meta 0 (sym (ap (is_at 0) (home_is image q is ∙ tree.is)) ∙ parts.1) in
    let same : tree.of.tree ≡ meta = master_tree image meta tree.of.tree has (ap (page_at file) (sym zero) ∙ tree.of.at) in
    let there : Contains (master_pairs file) pair =
    in_master image meta q pair has (subst (λ (m : BtreeMeta). Contains (leaves file m.root) q) same tree.of.leaf) found.1 told.live in
    let page : NamesPage file pair = names_page image pair is there in
    record {
      pair = pair;
      among = there;
      key_is = told.key_is;
      names = page.names ∙ sym (named_data file pair.data_item page.page given.1 page.names told.value);
    }

-- an entry is a live pair of the master
pub of_entries : (image : List ℕ) (meta : BtreeMeta) (key : List ℕ) (p : ℕ) → HasMaster image meta → Contains (entries (guessed image)) (key, p)
    → Names (file_of image) key p
unfolding entries
of_entries image meta key p has at = by_master (is_some (master_in (page_at (guessed image) 0))) at
  where
    g : File
    g = guessed image

    by_master : (b : Bool) → Contains (cond b (flat_map (entries_on g) (filter (is_master_leaf g) (range_with_len 0 g.count))) []) (key, p)
        → Names (file_of image) key p
    by_master false none = absurd (no_member [] (key, p) refl none)
    by_master true some =
        let page = of_flat_map (entries_on g) (filter (is_master_leaf g) (range_with_len 0 g.count)) (key, p) some in
        let leaf = of_filter (is_master_leaf g) (range_with_len 0 g.count) page.0 page.1 in
        let found = of_flat_map entry_of (stored_on g page.0) (key, p) page.2 in
        let named = of_map (λ n. (found.0.0, n)) (option_to_list (page_named found.0.1)) (key, p) found.2 in
        let pair : IsOfMaster image found.0 = leaf_pair image meta page.0 found.0 has leaf.1 found.1 in
        record {
          pair = pair.pair;
          among = pair.among;
          key_is = pair.key_is ∙ ap (λ (e : List ℕ × ℕ). e.0) named.2;
          names = pair.names ∙ (only (page_named found.0.1) named.0 named.1 ∙ ap (λ (e : List ℕ × ℕ). Some e.1) named.2);
        }
      where
        only : (o : Option ℕ) (n : ℕ) → Contains (option_to_list o) n → o ≡ Some n
        only None n at = absurd (no_member [] n refl at)
        only (Some m) n at = ap Some (only_member m n at)

-- and each live pair is one
pub in_entries : (image : List ℕ) (meta : BtreeMeta) (pair : StoredPair) (p : ℕ) → HasMaster image meta → Contains (master_pairs (file_of image)) pair
    → named_by (file_of image) pair.data_item ≡ Some p → Contains (entries (guessed image)) (pair.key, p)
unfolding entries
in_entries image meta pair p has at names =
    let file : File = file_of image in
    let g : File = guessed image in
    let is : IsSeen image = has.is in
    let on : StandsOnLeaf file meta pair = of_master image meta pair has at in
    let q : ℕ = on.page in
    let keys : is_recno meta ≡ false = master_keys image meta is.sound.forest has.master in
    let page : page_at file 0 ≡ Meta (BtreeFields meta) = master_is (page_at file 0) meta has.master in
    let metadata : HasMetadata file (BtreeFields meta) = record { page = 0; inside = omega arith; is = page } in
    let type : type_in (page_at file q) ≡ Some 5 = btree_leaf_type image meta q is.sound metadata keys on.leaf in
    let low : q ≤ file.last = inside_file image is_pair_page q refl (with_pairs file q pair on.at) in
    let leaf : is_leaf (page_at g q) ≡ true =
    ap is_leaf (page_is image q is low ∙ (leaf_page image q is.sound.forest type).1) in
    let itself : home g q ≡ Some (record { meta = 0; start = 0 }) =
    home_is image q is ∙ leaves_are_of_btrees file 0 q meta is.owned page keys (is.levels meta.root) on.leaf (leaf_typed (page_at file q) type) in
    let of : is_master_leaf g q ≡ true = and_from (is_leaf (page_at g q)) (is_at 0 (home g q)) leaf (ap (is_at 0) itself) in
    let datum = has_data file pair.data_item p names in
    let given : Contains (stored_on g q) (pair.key, datum.0) =
    subst (λ l. Contains {X = List ℕ × List ℕ} l (pair.key, datum.0)) (sym (stored_is image q is.whole is.is.bytes low))
    (in_flat_map (given_pair file) (pairs_of file q) pair (pair.key, datum.0) on.at (in_given file pair datum.0 on.live datum.1)) in
    let entry : Contains (entry_of (pair.key, datum.0)) (pair.key, p) =
    let it : List ℕ × ℕ = (pair.key, p) in
    subst (λ o. Contains {X = List ℕ × ℕ} (map (λ n. (pair.key, n)) (option_to_list o)) it) (sym datum.2) (one_there it) in
    let all : Contains (flat_map (entries_on g) (filter (is_master_leaf g) (range_with_len 0 g.count))) (pair.key, p) =
    in_flat_map (entries_on g) (filter (is_master_leaf g) (range_with_len 0 g.count)) q (pair.key, p)
    (in_filter (is_master_leaf g) (range_with_len 0 g.count) q (in_range 0 g.count q (omega arith) (omega (arith, below_count image q is low))) of)
    (in_flat_map entry_of (stored_on g q) (pair.key, datum.0) (pair.key, p) given entry) in
    let some : is_some (master_in (page_at g 0)) ≡ true =
    ap (λ page. is_some (master_in page)) (page_is image 0 is (omega arith)) ∙ ap is_some has.master in
    subst (λ b. Contains {X = List ℕ × ℕ} (cond b (flat_map (entries_on g) (filter (is_master_leaf g) (range_with_len 0 g.count))) []) (pair.key, p)) (sym some)
    all
