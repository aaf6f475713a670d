-- The databases of a sound image of bytes can be written.
use Rattle.std.proofs.Common.{◌≡◌, ℕ, ◌+◌, ◌-◌, ◌^◌, ◌<◌, Bool, true, false, not, cond, List, [], ◌∷◌, length, Option, Some, None, arith, refl, sym, ◌∙◌, ap}
use Rattle.std.proofs.Common.{subst, inl, ◌&&◌, ◌||◌, ◌==◌, nat_lt, drop, unwrap_or}
use Rattle.std.specs.List.{All, Contains, flat_map, range_with_len}
use Rattle.std.proofs.lemmas.Bool.{and_parts}
use Rattle.std.proofs.lemmas.Bool.Decides.{nat_tests}
use Rattle.std.proofs.lemmas.List.Elements.{All-drop, All-nil, All-take}
use Rattle.bdb_databases.specs.of_format.declared.kinds.Kind.TheVariants.{Queue as QueueKind}
use Rattle.bdb_databases.specs.of_format.declared.kinds.Order.{Order}
use Rattle.bdb_databases.specs.of_format.declared.metadata.BtreeMeta.{BtreeMeta}
use Rattle.bdb_databases.specs.of_format.declared.metadata.HashMeta.{HashMeta}
use Rattle.bdb_databases.specs.of_format.declared.metadata.QueueMeta.{QueueMeta}
use Rattle.bdb_databases.specs.of_format.Terms.{BtreeFields, BytesKey, Database, File, HashFields, ListKey, Metadata, NumberKey, Page, Queue, QueueFields}
use Rattle.bdb_databases.specs.of_format.Terms.{StoredPair, are_wrong_flags, btree_list, btree_settings, by_key, database_on, databases, databases_under}
use Rattle.bdb_databases.specs.of_format.Terms.{fields_in, file_of, has_bit, hash_list, hash_settings, head_of, is_page_size, is_recno, is_record, list_of}
use Rattle.bdb_databases.specs.of_format.Terms.{listed_pair, master_in, master_pairs, named_by, named_database, page_at, page_bytes, pairs_under, queue_list}
use Rattle.bdb_databases.specs.of_format.Terms.{queue_settings, recno_list, recno_settings, record_number, slot_at, table_pairs, tree_entries, tree_pairs}
use Rattle.bdb_databases.proofs.of_format.ListLemmas.{all_of}
use Rattle.bdb_databases.proofs.of_format.MemberLemmas.{in_range, no_member, none_passes, of_filter, of_flat_map, of_map}
use Rattle.bdb_databases.proofs.NamedLemmas.{with_name}
use Rattle.bdb_databases.specs.of_image.Linked.{HasMetadata, IsForest}
use Rattle.bdb_databases.proofs.of_graph.LinkedLemmas.{root_fits}
use Rattle.bdb_databases.proofs.of_graph.ReadLemmas.{IsMetaPage, IsReadAs, flags_fit, page_of_meta}
use Rattle.bdb_settle.specs.of_text_format.Terms.{legal_size}
use Rattle.bdb_databases.proofs.of_recno.PageLemmas.{root_recno}
use Rattle.bdb_databases.proofs.of_recno.ScanLemmas.{few_records}
use Rattle.bdb_text.specs.WrittenLaw.{AreBytes, CanBeWritten, IsPairOf}
use Rattle.bdb_law_kept.specs.Kept.{CanAllBeWritten, settings_in}
use Rattle.bdb_law_kept.proofs.BytesLemmas.{FileHoldsBytes, IsOfBytes, PageHoldsBytes, file_holds, live_datum_holds, number_fits, page_all}
use Rattle.bdb_law_kept.proofs.BytesLemmas.{table_pair_holds, tree_entry_holds, tree_pair_holds}
use Rattle.bdb_law_kept.proofs.KeyedLemmas.{of_by_key, of_listed}
use Rattle.bdb_law_kept.proofs.LaterLemmas.{of_enumerate}
use Rattle.bdb_law_kept.proofs.NumberedLemmas.{of_queue, of_recno}
use Rattle.bdb_law_kept.proofs.SoundLemmas.{forest_of, has_fields}
use Rattle.bdb_law_sections.proofs.HeaderLemmas.{any_turned}

-- Pairs.

listed_hold : (file : File) (pairs : List StoredPair) → FileHoldsBytes file → ((pair : StoredPair) → Contains pairs pair → IsOfBytes pair)
    → All (IsPairOf false) (flat_map (listed_pair file) pairs)
listed_hold file pairs all each =
    all_of (IsPairOf false) (flat_map (listed_pair file) pairs) (λ entry at.
    let pair = of_flat_map (listed_pair file) pairs entry at in
    let found = of_listed file pair.0 entry pair.2 in
    let some : IsOfBytes pair.0 = each pair.0 pair.1 in
    subst (IsPairOf false) found.2 (some.key, live_datum_holds file pair.0 found.0 all some found.1))

pub btree_pairs : (file : File) (root : ℕ) → FileHoldsBytes file → All (IsPairOf false) (btree_list file root)
unfolding btree_list
btree_pairs file root all = listed_hold file (tree_pairs file root) all (λ pair at. tree_pair_holds file root pair all at)

pub hash_pairs : (file : File) (meta : HashMeta) → FileHoldsBytes file → All (IsPairOf false) (hash_list file meta)
unfolding hash_list
hash_pairs file meta all =
    listed_hold file (by_key (table_pairs file meta)) all (λ pair at.
    table_pair_holds file meta pair all (of_by_key (table_pairs file meta) pair at))

numbered_pair : (pair : ListKey × List ℕ) (n : ℕ) → pair.0 ≡ NumberKey n → n < 2 ^ 32 → AreBytes pair.1 → IsPairOf true pair
numbered_pair (NumberKey k, value) n is low all = let same : k ≡ n = cc in (omega (arith, low, same), all)
numbered_pair (BytesKey k, value) n is low all = absurd cc

pub recno_pairs : (image : List ℕ) (meta : BtreeMeta) → IsForest image → HasMetadata (file_of image) (BtreeFields meta) → is_recno meta ≡ true
    → FileHoldsBytes (file_of image) → All (IsPairOf true) (recno_list (file_of image) meta.root)
recno_pairs image meta forest has recno all =
    let file : File = file_of image in
    let few : length (tree_entries file meta.root) < 2 ^ 32 =
    few_records image meta.root forest (inl (root_fits image (head_of image) meta forest.formed has)) (root_recno image meta forest has recno) in
    all_of (IsPairOf true) (recno_list file meta.root) (λ pair at.
    let found = of_recno file meta.root pair at in
    let among = of_enumerate 1 (tree_entries file meta.root) found.0 found.1 in
    numbered_pair pair found.0.0 found.2.key (omega (arith, few, among.1))
    (subst AreBytes (sym found.2.value) (tree_entry_holds file meta.root found.0.1 all among.2)))

below_current : (meta : QueueMeta) (p : ℕ) (records : List ℕ) (slot : ℕ) → is_record meta p records slot ≡ true
    → record_number meta p slot < meta.current
below_current meta p records slot live =
    let less : nat_lt (record_number meta p slot) meta.current ≡ true = (and_parts _ _ (and_parts _ _ live).0).1 in
    grind (arith, nat_tests, less)

queue_records : (page : Page) (number : ℕ) (records : List ℕ) → page ≡ Queue number records → PageHoldsBytes page → AreBytes records
queue_records page number records is all = subst PageHoldsBytes is all

pub queue_pairs : (file : File) (meta : QueueMeta) → meta.current < 2 ^ 32 → FileHoldsBytes file → All (IsPairOf true) (queue_list file meta)
queue_pairs file meta current all =
    all_of (IsPairOf true) (queue_list file meta) (λ pair at.
    let found = of_queue file meta pair at in
    let page = found.2 in
    let low : record_number meta found.0 page.slot < meta.current = below_current meta found.0 page.records page.slot page.of.live in
    let from : ℕ = slot_at meta page.slot + 1 in
    numbered_pair pair (record_number meta found.0 page.slot) page.of.key (omega (arith, low, current))
    (subst AreBytes (sym page.of.value)
    (All-take (λ (byte : ℕ). byte < 256) (from + meta.re_len - from) (drop from page.records)
    (All-drop (λ (byte : ℕ). byte < 256) from page.records (queue_records (page_at file found.0) page.number page.records page.page_is
    (all found.0))))))

-- Names.

named_bytes : (file : File) (key : List ℕ) (p : Option ℕ) (database : Database) → AreBytes key → Contains (database_on file (Some key) p) database
    → AreBytes (unwrap_or database.name [])
named_bytes file key None database all at = absurd (no_member [] database refl at)
named_bytes file key (Some p) database all at =
    let found = of_map (with_name (Some key)) (fields_in (page_at file p)) database at in
    subst (λ (d : Database). AreBytes (unwrap_or d.name [])) found.2 all

unnamed_bytes : (file : File) (database : Database) → Contains (database_on file None (Some 0)) database → AreBytes (unwrap_or database.name [])
unnamed_bytes file database at =
    let found = of_map (with_name None) (fields_in (page_at file 0)) database at in
    subst (λ (d : Database). AreBytes (unwrap_or d.name [])) found.2 (All-nil (λ (byte : ℕ). byte < 256))

of_master : (file : File) (found : Option BtreeMeta) (pair : StoredPair) → FileHoldsBytes file → Contains (pairs_under file found) pair
    → IsOfBytes pair
of_master file None pair all at = absurd (no_member [] pair refl at)
of_master file (Some meta) pair all at =
    tree_pair_holds file meta.root pair all (of_filter (λ (one : StoredPair). one.live) (tree_pairs file meta.root) pair at).0

under_bytes : (file : File) (found : Option BtreeMeta) (database : Database) → FileHoldsBytes file → Contains (databases_under file found) database
    → AreBytes (unwrap_or database.name [])
unfolding master_pairs
under_bytes file None database all at = unnamed_bytes file database at
under_bytes file (Some meta) database all at =
    let pair = of_flat_map (named_database file) (master_pairs file) database at in
    named_bytes file pair.0.key (named_by file pair.0.data_item) database
    (of_master file (master_in (page_at file 0)) pair.0 all pair.1).key pair.2

name_bytes : (file : File) (database : Database) → FileHoldsBytes file → Contains (databases file) database → AreBytes (unwrap_or database.name [])
unfolding databases
name_bytes file database all at = under_bytes file (master_in (page_at file 0)) database all at

-- Settings.

pub legal : (n : ℕ) → is_page_size n ≡ true → legal_size n ≡ true
legal n is = any_turned n (512 ∷ 1024 ∷ 2048 ∷ 4096 ∷ 8192 ∷ 16384 ∷ 32768 ∷ []) ∙ is

-- numbers of metadata
abbrev pub NumbersFit : Metadata → Type 0
NumbersFit (BtreeFields meta) = (meta.minkey < 2 ^ 32) × (meta.re_len < 2 ^ 32) × (meta.re_pad < 2 ^ 32)
NumbersFit (HashFields meta) = meta.ffactor < 2 ^ 32
NumbersFit (QueueFields meta) = (meta.current < 2 ^ 32) × (meta.re_len < 2 ^ 32) × (meta.re_pad < 2 ^ 32)

pub numbers_fit : (order : Order) (page : List ℕ) (fields : Metadata) → AreBytes page → IsReadAs order page fields → NumbersFit fields
numbers_fit order page (BtreeFields meta) all read =
    subst (λ (m : BtreeMeta). NumbersFit (BtreeFields m)) read.1
    (number_fits order page 76 all, number_fits order page 80 all, number_fits order page 84 all)
numbers_fit order page (HashFields meta) all read = subst (λ (m : HashMeta). NumbersFit (HashFields m)) read.1 (number_fits order page 84 all)
numbers_fit order page (QueueFields meta) all read =
    subst (λ (m : QueueMeta). NumbersFit (QueueFields m)) read.1
    (number_fits order page 76 all, number_fits order page 80 all, number_fits order page 84 all)

-- Flags.

pub sorted_set : (flags : ℕ) → flags < 256 → (has_bit flags 0x40 && not (has_bit flags 0x41)) ≡ false
sorted_set flags low =
    none_passes (λ (n : ℕ). has_bit n 0x40 && not (has_bit n 0x41)) (range_with_len 0 256) flags refl (in_range 0 256 flags (omega arith) (omega
    (arith, low)))

no_flag_conflict : (number flags : ℕ) → are_wrong_flags number flags ≡ false
    → (has_bit flags 0x04 && (has_bit flags 0x41 || has_bit flags 0x40)) ≡ false
no_flag_conflict number flags fit =
    let low : flags < 256 = grind (arith, nat_tests, fit) in
    grind (arith, fit, sorted_set flags low)

-- Each kind.

btree_written : (name : Option (List ℕ)) (size : ℕ) (order : Order) (meta : BtreeMeta) (p : ℕ) (list : List (ListKey × List ℕ))
    → is_page_size size ≡ true
    → are_wrong_flags p meta.flags ≡ false → NumbersFit (BtreeFields meta) → AreBytes (unwrap_or name []) → All (IsPairOf false) list
    → CanBeWritten name (btree_settings size order meta) list
btree_written name size order meta p list size_is flags fit named pairs = record {
  page_size = legal size size_is;
  no_conflict = ap (λ b. b || false) (no_flag_conflict p meta.flags flags);
  minkey = fit.0;
  ffactor = omega arith;
  re_len = omega arith;
  re_pad = omega arith;
  name_bytes = named;
  pairs = pairs;
}

recno_written : (name : Option (List ℕ)) (size : ℕ) (order : Order) (meta : BtreeMeta) (list : List (ListKey × List ℕ)) → is_page_size size ≡ true
    → NumbersFit (BtreeFields meta) → AreBytes (unwrap_or name []) → All (IsPairOf true) list
    → CanBeWritten name (recno_settings size order meta) list
recno_written name size order meta list size_is fit named pairs = record {
  page_size = legal size size_is;
  no_conflict = refl;
  minkey = omega arith;
  ffactor = omega arith;
  re_len = fit.1;
  re_pad = fit.2;
  name_bytes = named;
  pairs = pairs;
}

hash_written : (name : Option (List ℕ)) (size : ℕ) (order : Order) (meta : HashMeta) (list : List (ListKey × List ℕ)) → is_page_size size ≡ true
    → NumbersFit (HashFields meta) → AreBytes (unwrap_or name []) → All (IsPairOf false) list
    → CanBeWritten name (hash_settings size order meta) list
hash_written name size order meta list size_is fit named pairs = record {
  page_size = legal size size_is;
  no_conflict = refl;
  minkey = omega arith;
  ffactor = fit;
  re_len = omega arith;
  re_pad = omega arith;
  name_bytes = named;
  pairs = pairs;
}

queue_written : (name : Option (List ℕ)) (size : ℕ) (order : Order) (meta : QueueMeta) (list : List (ListKey × List ℕ)) → is_page_size size ≡ true
    → (meta.re_len == 0) ≡ false → NumbersFit (QueueFields meta) → AreBytes (unwrap_or name []) → All (IsPairOf true) list
    → CanBeWritten name (queue_settings size order meta) list
queue_written name size order meta list size_is some fit named pairs = record {
  page_size = legal size size_is;
  no_conflict = some;
  minkey = omega arith;
  ffactor = omega arith;
  re_len = fit.1;
  re_pad = fit.2;
  name_bytes = named;
  pairs = pairs;
}

fields_written : (image : List ℕ) (name : Option (List ℕ)) (fields : Metadata) → IsForest image → (has : HasMetadata (file_of image) fields)
    → FileHoldsBytes (file_of image) → IsMetaPage image has.page fields → NumbersFit fields → AreBytes (unwrap_or name [])
    → ((settings_in image fields).kind ≡ QueueKind → ((settings_in image fields).re_len == 0) ≡ false)
    → CanBeWritten name (settings_in image fields) (list_of (file_of image) fields)
fields_written image name (BtreeFields meta) forest has all is fit named some = by_kind (is_recno meta) refl
  where
    size : ℕ
    size = (head_of image).page_size

    order : Order
    order = (head_of image).order

    by_kind : (b : Bool) → is_recno meta ≡ b
        → CanBeWritten name (cond b (recno_settings size order meta) (btree_settings size order meta))
        (cond b (recno_list (file_of image) meta.root) (btree_list (file_of image) meta.root))
    by_kind true recno =
        recno_written name size order meta (recno_list (file_of image) meta.root) is.legal fit named (recno_pairs image meta forest has recno all)
    by_kind false keyed =
        btree_written name size order meta has.page (btree_list (file_of image) meta.root) is.legal (flags_fit image has.page meta is) fit named
        (btree_pairs (file_of image) meta.root all)
fields_written image name (HashFields meta) forest has all is fit named some =
    hash_written name (head_of image).page_size (head_of image).order meta (hash_list (file_of image) meta) is.legal fit named
    (hash_pairs (file_of image) meta all)
fields_written image name (QueueFields meta) forest has all is fit named some =
    queue_written name (head_of image).page_size (head_of image).order meta (queue_list (file_of image) meta) is.legal (some refl) fit named
    (queue_pairs (file_of image) meta fit.0 all)

pub all_can_be_written : CanAllBeWritten
all_can_be_written image database sound bytes at some =
    let forest : IsForest image = forest_of image sound in
    let has : HasMetadata (file_of image) database.fields = has_fields image database at in
    let all : FileHoldsBytes (file_of image) = file_holds image bytes in
    let is : IsMetaPage image has.page database.fields = page_of_meta image database.fields forest has in
    fields_written image database.name database.fields forest has all is
    (numbers_fit (head_of image).order (page_bytes (head_of image) image has.page) database.fields (page_all image has.page bytes) is.read)
    (name_bytes (file_of image) database all at) some
