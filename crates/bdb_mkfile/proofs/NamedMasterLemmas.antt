-- The list of a master, and its tree.
use Rattle.std.proofs.Common.{◌≡◌, ℕ, ◌+◌, ◌<◌, List, [], ◌∷◌, ◌++◌, length, take, get_or, arith, sym, ◌∙◌, ap, subst}
use Rattle.bdb_mkfile.proofs.Common.{length-take-le, take_more, Btree, BtreeMeta, Settings, BtreeFields, settings_of, Pair, Section, listed, between, Built, AreTreesIn, tree_size, trees_are_in}
use Rattle.bdb_mkfile.proofs.Common.{IsTreeBuilt, IsTreeList, units_in, is_counted, leaf_type_of, tree_pages, AreNamed, names_pages, entries_from, entry_of, named_tree_meta, settings_of_master}
use Rattle.bdb_mkfile.proofs.Common.{TreeIsIn, HoldsPart, IsMasterBuilt}
use Rattle.bdb_mkfile.proofs.NamedBuildLemmas.{tree_is_in}
use Rattle.bdb_mkfile.proofs.EntryLemmas.{entries_are_listed, entries_take_pages}
use Rattle.bdb_mkfile.proofs.TreeMetaLemmas.{master_is_said}

-- The list.

entries_both : (number : ℕ) (one two : List Section)
    → entries_from number (one ++ two) ≡ entries_from number one ++ entries_from (number + length one) two
entries_both number [] two = ap (λ n. entries_from n two) (let e : number ≡ number + 0 = omega arith in e)
entries_both number (section ∷ one) two = grind (arith, entry_of, entries_from, entries_both (number + 1) one two)

-- the entry of one section more
pub entries_more : (first i number : ℕ) (sections : List Section) (section : Section) → i < length sections
    → section ≡ get_or sections i section → number ≡ first + i
    → entries_from first (take (i + 1) sections) ≡ entries_from first (take i sections) ++ (entry_of number section ∷ [])
entries_more first i number sections section within is at =
    ap (entries_from first) (take_more sections i section within)
    ∙ (entries_both first (take i sections) (get_or sections i section ∷ [])
    ∙ (ap (λ s. entries_from first (take i sections) ++ (entry_of (first + length (take i sections)) s ∷ [])) (sym is)
    ∙ ap (λ n. entries_from first (take i sections) ++ (entry_of n section ∷ []))
    (let e : first + length (take i sections) ≡ number = omega (arith, length-take-le i sections, within, at) in e)))

-- a tree can be built of it
pub entries_listed : (settings : Settings) (pairs : List Pair) (number : ℕ) (sections : List Section)
    → settings ≡ settings_of_master settings.page_size settings.order → AreNamed settings.page_size sections → pairs ≡ entries_from number sections
    → IsTreeList settings pairs
entries_listed settings pairs number sections master named are =
    subst (λ s. IsTreeList s pairs) (sym master)
    (subst (IsTreeList (settings_of_master settings.page_size settings.order)) (sym are)
    (entries_are_listed settings.page_size settings.order number sections named))

-- it takes as many pages as the names do
pub entries_counted : (settings : Settings) (pairs : List Pair) (number : ℕ) (sections : List Section)
    → settings ≡ settings_of_master settings.page_size settings.order → pairs ≡ entries_from number sections
    → tree_pages settings pairs ≡ names_pages settings.page_size sections
entries_counted settings pairs number sections master are =
    ap (tree_pages settings) are
    ∙ (ap (λ s. tree_pages s (entries_from number sections)) master
    ∙ entries_take_pages settings.page_size settings.order number sections)

-- The tree.

-- the tree of the list behind all pages
pub record IsMasterBehind (sections : List Section) (size : ℕ) (settings : Settings) (count first : ℕ) (list : List Pair) (old new : Built)
    (root : ℕ) (meta : BtreeMeta) : Type 0 where
  pub size_is : old.size ≡ size
  pub settings_are : settings ≡ settings_of_master size old.order
  pub count_is : count ≡ names_pages settings.page_size sections
  pub first_is : first ≡ length old.pages + count
  pub list_is : list ≡ entries_from first sections
  pub tree : IsTreeBuilt settings (length old.pages) old new (units_in settings.kind list) (listed list) root
  pub meta_is : meta ≡ named_tree_meta settings root

pub settings_again : (settings : Settings) (size : ℕ) (old : Built) → settings ≡ settings_of_master size old.order
    → settings ≡ settings_of_master settings.page_size settings.order
settings_again settings size old are = are ∙ ap (λ (s : Settings). settings_of_master s.page_size s.order) (sym are)

pub master_built : (sections : List Section) (size : ℕ) (settings : Settings) (count first : ℕ) (list : List Pair) (old new : Built)
    (root : ℕ) (meta : BtreeMeta) → IsMasterBehind sections size settings count first list old new root meta → IsMasterBuilt sections old new meta
master_built sections size settings count first list old new root meta is =
    let own : settings ≡ settings_of_master old.size old.order = is.settings_are ∙ ap (λ n. settings_of_master n old.order) (sym is.size_is) in
    let page_size : settings.page_size ≡ old.size = ap (λ (s : Settings). s.page_size) own in
    let many : length new.pages ≡ length old.pages + names_pages old.size sections =
    is.tree.count
    ∙ (ap (λ n. length old.pages + tree_size (leaf_type_of settings.kind) n settings.sorted (units_in settings.kind list))
    (is.tree.kept.size ∙ sym page_size)
    ∙ (ap (λ n. length old.pages + n)
    (entries_counted settings list first sections (settings_again settings size old is.settings_are) is.list_is)
    ∙ ap (λ n. length old.pages + names_pages n sections) page_size)) in
    let first_is : first ≡ length new.pages =
    is.first_is ∙ (ap (λ n. length old.pages + n) (is.count_is ∙ ap (λ n. names_pages n sections) page_size) ∙ sym many) in
    let list_is : list ≡ entries_from (length new.pages) sections = is.list_is ∙ ap (λ n. entries_from n sections) first_is in
    let says : settings_of new.size new.order (BtreeFields meta) ≡ settings =
    ap (λ n. settings_of n new.order (BtreeFields meta)) is.tree.kept.size
    ∙ (ap (λ o. settings_of old.size o (BtreeFields meta)) is.tree.kept.order
    ∙ (ap (λ m. settings_of old.size old.order (BtreeFields m)) (is.meta_is ∙ ap (λ s. named_tree_meta s root) own)
    ∙ ((master_is_said old.size old.order root).settings_are ∙ sym own))) in
    record {
      kept = is.tree.kept;
      count = many;
      root = root;
      root_is = is.tree.root_is;
      meta_is = is.meta_is ∙ ap (λ s. named_tree_meta s root) own;
      tree = λ image has.
          subst (λ ps. TreeIsIn Btree (settings_of_master old.size old.order) image ps root) list_is
          (subst (λ (s : Settings). TreeIsIn s.kind s image list root) own
          (tree_is_in settings.kind settings image list root
          (subst (λ n. AreTreesIn (leaf_type_of settings.kind) image n (is_counted settings.kind settings.recnum) (units_in settings.kind list) root)
          (is.tree.kept.size ∙ sym page_size)
          (trees_are_in (leaf_type_of settings.kind) new (between (length old.pages) (length new.pages)) (is_counted settings.kind settings.recnum)
          (units_in settings.kind list) root is.tree.laid_out is.tree.sets_laid_out image has))));
      holds =
          subst (λ ps. HoldsPart new (length old.pages) (length new.pages) (BtreeFields meta) (listed ps)) list_is
          (record {
            there = omega arith;
            formed = is.tree.formed;
            part = λ g counted later. is.tree.part g meta counted later says (ap (λ (m : BtreeMeta). m.root) is.meta_is);
            buckets = λ g counted later. tt;
          });
    }
