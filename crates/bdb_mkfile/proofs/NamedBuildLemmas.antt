-- Databases that are built under names.
use Rattle.std.proofs.Common.{◌≡◌, ℕ, ◌+◌, ◌-◌, ◌≤◌, Bool, true, false, List, length, None, arith, refl, sym, ◌∙◌, ap, subst, inl, inr}
use Rattle.bdb_mkfile.proofs.Common.{Kind, Btree, Recno, Hash, Queue, Order, BtreeMeta, HashMeta, Settings, BtreeFields, HashFields, first_row, settings_of, table_bytes, flag_rows, IsPart, between}
use Rattle.bdb_mkfile.proofs.Common.{Pair, Section, listed, Built, btrees_are_spelled, AreTreesIn, tree_size, trees_are_in, IsTreeBuilt, units_in, IsTreeKind, is_counted, leaf_type_of}
use Rattle.bdb_mkfile.proofs.Common.{HasBuiltBuckets, table_meta, table_bits, table_cost, table_size, table_units, IsTableBuilt, unlined_pairs, tree_pages, list_pages, sized, file_settings}
use Rattle.bdb_mkfile.proofs.Common.{own_settings, IsTreeSettings, Table, Tree, DatabaseMeta, AreNamedSettings, IsNamed, named_table_meta, named_tree_meta, TreeIsIn, meta_for, settings_in}
use Rattle.bdb_mkfile.proofs.Common.{CanBeSpelled, Counts, HoldsPart, IsDatabaseBuilt, IsSectionBuilt, part_between, fields_of}
use Rattle.bdb_mkfile.proofs.MetaLemmas.{buckets_fit, some_bits}
use Rattle.bdb_mkfile.proofs.SettingsLemmas.{only_duplicates, own_size, own_kind}
use Rattle.bdb_mkfile.proofs.TableMetaLemmas.{table_settings, tables_are_spelled, tables_have_names}
use Rattle.bdb_mkfile.proofs.TreeMetaLemmas.{trees_have_names}

-- Trees.

pub list_pages_tree : (k : Kind) (settings : Settings) (list : List Pair) → IsTreeKind k → list_pages k settings list ≡ tree_pages settings list
list_pages_tree Btree settings list is = refl
list_pages_tree Recno settings list is = refl
list_pages_tree Hash settings list is = absurd (elim is [ inl e ↦ cc e | inr e ↦ cc e ])
list_pages_tree Queue settings list is = absurd (elim is [ inl e ↦ cc e | inr e ↦ cc e ])

-- a tree behind all pages, for settings as they are in a file
pub record IsTreeBehind (settings : Settings) (list : List Pair) (old new : Built) (root : ℕ) (meta : BtreeMeta) : Type 0 where
  pub fit : IsTreeSettings settings
  pub own : settings ≡ file_settings settings
  pub size : old.size ≡ settings.page_size
  pub order : old.order ≡ settings.order
  pub tree : IsTreeBuilt settings (length old.pages) old new (units_in settings.kind list) (listed list) root
  pub meta_is : meta ≡ named_tree_meta settings root

meta_of_tree : (k : Kind) (settings : Settings) (list : List Pair) (first : ℕ) → IsTreeKind k
    → Tree (named_tree_meta settings first) ≡ meta_for k settings list first
meta_of_tree Btree settings list first is = refl
meta_of_tree Recno settings list first is = refl
meta_of_tree Hash settings list first is = absurd (elim is [ inl e ↦ cc e | inr e ↦ cc e ])
meta_of_tree Queue settings list first is = refl

-- a tree that is laid out in an image is that of a list, whatever its kind
pub tree_is_in : (k : Kind) (settings : Settings) (image : List ℕ) (list : List Pair) (root : ℕ)
    → AreTreesIn (leaf_type_of k) image settings.page_size (is_counted k settings.recnum) (units_in k list) root
    → TreeIsIn k settings image list root
tree_is_in Btree settings image list root are = are
tree_is_in Recno settings image list root are = are
tree_is_in Hash settings image list root are = tt
tree_is_in Queue settings image list root are = tt

-- its metadata says the settings, and breaks no row of flags
named : (settings : Settings) (root number : ℕ) → IsTreeSettings settings → settings ≡ file_settings settings → 1 ≤ number
    → (settings_of settings.page_size settings.order (BtreeFields (named_tree_meta settings root)) ≡ settings)
    × (first_row (flag_rows number (named_tree_meta settings root).flags) ≡ None)
named settings root number fit own above =
    subst (λ (s : Settings). (settings_of s.page_size s.order (BtreeFields (named_tree_meta s root)) ≡ s)
    × (first_row (flag_rows number (named_tree_meta s root).flags) ≡ None)) (sym own)
    (trees_have_names settings root number fit above)

pub tree_built : (settings : Settings) (list : List Pair) (old new : Built) (root : ℕ) (meta : BtreeMeta)
    → IsTreeBehind settings list old new root meta → IsDatabaseBuilt settings list old new (Tree meta)
tree_built settings list old new root meta is =
    record {
      kept = is.tree.kept;
      count = count;
      counts = tt;
      meta_is =
          ap (λ m. Tree m) (is.meta_is ∙ ap (named_tree_meta settings) is.tree.root_is)
          ∙ meta_of_tree settings.kind settings list (length old.pages) is.fit.kind;
      tree = λ image has.
          subst (TreeIsIn settings.kind settings image list) is.tree.root_is
          (tree_is_in settings.kind settings image list root
          (subst (λ n. AreTreesIn (leaf_type_of settings.kind) image n (is_counted settings.kind settings.recnum) (units_in settings.kind list) root)
          size
          (trees_are_in (leaf_type_of settings.kind) new (between (length old.pages) (length new.pages)) (is_counted settings.kind settings.recnum)
          (units_in settings.kind list) root is.tree.laid_out is.tree.sets_laid_out image has)));
      says = says;
      holds = record {
        there = omega arith;
        formed = is.tree.formed;
        part = λ g counted later.
            is.tree.part g meta counted later
            (ap (λ n. settings_of n new.order (BtreeFields meta)) size
            ∙ (ap (λ o. settings_of settings.page_size o (BtreeFields meta)) order ∙ says))
            (ap (λ (m : BtreeMeta). m.root) is.meta_is);
        buckets = λ g counted later. tt;
      };
      spelled = λ built number pages above there room written.
          btrees_are_spelled built (record {
            meta = number;
            part = record { pages = between (length old.pages) (length new.pages); fields = BtreeFields meta; list = listed list };
          })
          meta pages there refl
          (record {
            bytes = written.bytes;
            fields = written.fields;
            flags = ap (λ (m : BtreeMeta). first_row (flag_rows number m.flags)) is.meta_is ∙ (named settings root number is.fit is.own above).1;
          })
          (λ zero. ap (λ (m : BtreeMeta). m.free) is.meta_is);
    }
  where
    size : new.size ≡ settings.page_size
    size = is.tree.kept.size ∙ is.size

    order : new.order ≡ settings.order
    order = is.tree.kept.order ∙ is.order

    count : length new.pages ≡ length old.pages + list_pages settings.kind settings list
    count =
        is.tree.count
        ∙ (ap (λ n. length old.pages + tree_size (leaf_type_of settings.kind) n settings.sorted (units_in settings.kind list)) size
        ∙ ap (λ n. length old.pages + n) (sym (list_pages_tree settings.kind settings list is.fit.kind)))

    says : settings_of settings.page_size settings.order (BtreeFields meta) ≡ settings
    says =
        ap (λ m. settings_of settings.page_size settings.order (BtreeFields m)) is.meta_is
        ∙ (named settings root 1 is.fit is.own (omega arith)).0

-- Tables.

-- a table behind all pages, for settings as they are in a file
pub record IsTableBehind (settings : Settings) (list : List Pair) (old new : Built) (built meta : HashMeta) (elements : ℕ) : Type 0 where
  pub kind : settings.kind ≡ Hash
  pub own : settings ≡ file_settings settings
  pub both : settings.sorted ≡ true → settings.duplicates ≡ true
  pub size : old.size ≡ settings.page_size
  pub order : old.order ≡ settings.order
  pub some : 1 ≤ length old.pages
  pub table : IsTableBuilt settings old new (table_units list) (listed list) built
  pub meta_is : meta ≡ named_table_meta built
  pub counted : elements ≡ length list

pub table_built : (settings : Settings) (list : List Pair) (old new : Built) (built meta : HashMeta) (elements : ℕ)
    → IsTableBehind settings list old new built meta elements → IsDatabaseBuilt settings list old new (Table meta elements)
table_built settings list old new built meta elements is =
    record {
      kept = is.table.kept;
      count =
          is.table.count
          ∙ (ap (λ n. length old.pages + table_size n settings.sorted (table_units list)) is.size
          ∙ ap (λ k. length old.pages + list_pages k settings list) (sym is.kind));
      counts = is.counted;
      meta_is =
          ap (λ m. Table m elements) meta_is
          ∙ (ap (λ n. Table (named_table_meta (table_meta settings (length old.pages) bits)) n) is.counted
          ∙ (ap (λ n. Table (named_table_meta (table_meta settings (length old.pages) (table_bits n (table_units list)))) (length list)) is.size
          ∙ ap (λ k. meta_for k settings list (length old.pages)) (sym is.kind)));
      tree = λ image has. subst (λ k. TreeIsIn k settings image list (length old.pages)) (sym is.kind) tt;
      says =
          ap (λ m. settings_of settings.page_size settings.order (HashFields m)) meta_is
          ∙ (table_settings settings settings.page_size settings.order (length old.pages) bits is.both
          ∙ (ap (λ k. own_settings k settings.page_size settings.order settings) (sym is.kind) ∙ sym is.own));
      holds = record {
        there = omega arith;
        formed = is.table.formed;
        part = λ g counted later.
            subst (λ m. IsPart g (record { pages = pages; fields = HashFields m; list = listed list })) (sym meta_is)
            (tables_have_names g pages settings (length old.pages) bits (listed list)
            (subst (λ m. IsPart g (record { pages = pages; fields = HashFields m; list = listed list })) is.table.fields
            (is.table.part g counted later)));
        buckets = λ g counted later.
            let there : HasBuiltBuckets g built = is.table.buckets g counted later in
            subst (λ m. HasBuiltBuckets g m) (sym is.meta_is) (record { unsorted = there.unsorted; sums = there.sums });
      };
      spelled = λ after number legal above there room written.
          tables_are_spelled after
          (record { meta = number; part = record { pages = pages; fields = HashFields meta; list = listed list } })
          settings (length old.pages) bits elements legal above there (some_bits old.size (table_cost old.size (table_units list))) is.some
          (omega (arith, is.table.count, room, is.some, buckets_fit old.size settings.sorted (table_units list)))
          (ap (λ m. HashFields m) meta_is)
          (written.bytes
          ∙ ap (table_bytes after.order after.size number (length after.pages - 1) elements) meta_is)
          (written.fields ∙ meta_is);
    }
  where
    bits : ℕ
    bits = table_bits old.size (table_units list)

    pages : ℕ → Bool
    pages = between (length old.pages) (length new.pages)

    meta_is : meta ≡ named_table_meta (table_meta settings (length old.pages) bits)
    meta_is = is.meta_is ∙ ap named_table_meta is.table.fields

-- Settings and lists of a section in a file.

-- the page size and the order that settings have of their own take no part
pub in_file : (k : Kind) (size : ℕ) (order : Order) (settings : Settings)
    → own_settings k size order (record settings { page_size = size; order = order }) ≡ own_settings k size order settings
in_file Btree size order settings = refl
in_file Recno size order settings = refl
in_file Hash size order settings = refl
in_file Queue size order settings = refl

-- settings of a recno sort no data
no_sorting : (settings : Settings) → AreNamedSettings settings → settings.kind ≡ Recno → settings.sorted ≡ false
no_sorting settings are recno =
    elim are [
      | inl tree ↦ only_duplicates settings.sorted settings.duplicates tree.sorted (tree.records recno)
      | inr hash ↦ absurd (cc (hash.0, recno))
    ]

-- and it takes as many pages
pub pages_alike : (k : Kind) (size : ℕ) (order : Order) (settings : Settings) (pairs : List Pair) → settings.kind ≡ k
    → AreNamedSettings (record settings { page_size = size })
    → list_pages (own_settings k size order settings).kind (own_settings k size order settings) pairs
    ≡ list_pages k (record settings { page_size = size }) pairs
pages_alike Btree size order settings pairs same are = ap (λ k. tree_size (leaf_type_of k) size settings.sorted (units_in k pairs)) (sym same)
pages_alike Recno size order settings pairs same are =
    ap (λ s. tree_size (leaf_type_of Recno) size s (units_in Recno pairs)) (sym (no_sorting (record settings { page_size = size }) are same))
    ∙ ap (λ k. tree_size (leaf_type_of k) size settings.sorted (units_in k pairs)) (sym same)
pages_alike Hash size order settings pairs same are = refl
pages_alike Queue size order settings pairs same are =
    absurd (elim are [ inl tree ↦ elim tree.kind [ inl e ↦ cc (e, same) | inr e ↦ cc (e, same) ] | inr hash ↦ cc (hash.0, same) ])

own_order : (k : Kind) (size : ℕ) (order : Order) (settings : Settings) → (own_settings k size order settings).order ≡ order
own_order Btree size order settings = refl
own_order Recno size order settings = refl
own_order Hash size order settings = refl
own_order Queue size order settings = refl

-- A section.

-- the database of its list was built behind all pages, for its settings in the file
pub record IsSectionAt (section : Section) (size : ℕ) (settings : Settings) (list : List Pair) (old : Built) : Type 0 where
  pub named : IsNamed size section
  pub size_is : old.size ≡ size
  pub settings_are : settings ≡ own_settings section.settings.kind size old.order section.settings
  pub list_is : list ≡ unlined_pairs section.pairs

pub section_built : (section : Section) (size : ℕ) (settings : Settings) (list : List Pair) (old new : Built) (meta : DatabaseMeta)
    → IsSectionAt section size settings list old → IsDatabaseBuilt settings list old new meta → IsSectionBuilt section old new meta
section_built section size settings list old new meta is built =
    record {
      kept = built.kept;
      laid = record {
        count =
            built.count
            ∙ ap (λ n. length old.pages + n)
            (ap (λ s. list_pages s.kind s list) is.settings_are
            ∙ (ap (list_pages own.kind own) is.list_is
            ∙ (pages_alike section.settings.kind size old.order section.settings (unlined_pairs section.pairs) refl is.named.settings
            ∙ ap (λ n. list_pages section.settings.kind (sized n section) (unlined_pairs section.pairs)) (sym size_is))));
        counts = subst (λ l. Counts meta (length l)) is.list_is built.counts;
        meta_is =
            built.meta_is
            ∙ (ap (λ k. meta_for k settings list (length old.pages)) kind_is
            ∙ (ap (λ s. meta_for section.settings.kind s list (length old.pages)) (is.settings_are ∙ again)
            ∙ ap (λ l. meta_for section.settings.kind (settings_in new.size new.order section) l (length old.pages)) is.list_is));
        tree = λ image has.
            subst (λ l. TreeIsIn section.settings.kind (settings_in new.size new.order section) image l (length old.pages)) is.list_is
            (subst (λ s. TreeIsIn section.settings.kind s image list (length old.pages)) (is.settings_are ∙ again)
            (subst (λ k. TreeIsIn k settings image list (length old.pages)) kind_is (built.tree image has)));
        says =
            ap (λ n. settings_of n new.order (fields_of meta)) (size_is ∙ sym own_size_is)
            ∙ (ap (λ o. settings_of settings.page_size o (fields_of meta)) (built.kept.order ∙ sym own_order_is)
            ∙ (built.says ∙ (is.settings_are ∙ again)));
        holds = subst (λ l. HoldsPart new (length old.pages) (length new.pages) (fields_of meta) (listed l)) is.list_is
            built.holds;
        spelled = subst (λ l. CanBeSpelled (length new.pages) meta
            (part_between (length old.pages) (length new.pages) (fields_of meta) (listed l))) is.list_is built.spelled;
      };
    }
  where
    own : Settings
    own = own_settings section.settings.kind size old.order section.settings

    size_is : new.size ≡ size
    size_is = built.kept.size ∙ is.size_is

    own_size_is : settings.page_size ≡ size
    own_size_is = ap (λ (s : Settings). s.page_size) is.settings_are ∙ own_size section.settings.kind size old.order section.settings

    kind_is : settings.kind ≡ section.settings.kind
    kind_is = ap (λ (s : Settings). s.kind) is.settings_are ∙ own_kind section.settings.kind size old.order section.settings

    own_order_is : settings.order ≡ old.order
    own_order_is = ap (λ (s : Settings). s.order) is.settings_are ∙ own_order section.settings.kind size old.order section.settings

    again : own ≡ own_settings section.settings.kind new.size new.order section.settings
    again =
        ap (λ n. own_settings section.settings.kind n old.order section.settings) (sym size_is)
        ∙ ap (λ o. own_settings section.settings.kind new.size o section.settings) (sym built.kept.order)
