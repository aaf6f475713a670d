-- The lists of a btree and of a hash of which no row of the contents holds are kept.
use Rattle.std.proofs.Common.{◌≡◌, ℕ, ◌+◌, ◌≤◌, Bool, true, false, cond, List, [], arith, refl, sym, ◌∙◌, ap, subst, ◌&&◌, ◌==◌}
use Rattle.std.specs.List.{Contains, flat_map, range_with_len}
use Rattle.std.proofs.lemmas.Bool.{eq-eqb, true≢false}
use Rattle.bdb_databases.specs.of_format.declared.kinds.Order.{Order}
use Rattle.bdb_databases.specs.of_format.declared.metadata.BtreeMeta.{BtreeMeta}
use Rattle.bdb_databases.specs.of_format.declared.metadata.HashMeta.{HashMeta}
use Rattle.bdb_databases.specs.of_format.declared.settings.Settings.{Settings}
use Rattle.bdb_databases.specs.of_format.Terms.{BtreeFields, File, HashFields, ListKey, Metadata, QueueFields, StoredPair, btree_contents, btree_list}
use Rattle.bdb_databases.specs.of_format.Terms.{btree_settings, bucket_pairs, by_key, database_faults, database_rows, file_of, hash_list, hash_settings}
use Rattle.bdb_databases.specs.of_format.Terms.{is_recno, list_of, listed_pair, recno_list, recno_settings, repeated, settings_of, structure_faults}
use Rattle.bdb_databases.specs.of_format.Terms.{table_pairs, tree_pairs}
use Rattle.bdb_databases.specs.of_format.Verdict.{holding}
use Rattle.bdb_databases.proofs.of_format.MemberLemmas.{is_empty, none_passes, of_flat_map, of_range}
use Rattle.bdb_databases.proofs.of_format.PairLemmas.{keyed_rows}
use Rattle.bdb_databases.proofs.of_format.RepeatLemmas.{of_repeated, repeated_is}
use Rattle.bdb_databases.proofs.of_format.VerdictLemmas.{AllFail, all_fail, no_codes_at}
use Rattle.bdb_databases.specs.of_image.Linked.{HasMetadata, IsForest}
use Rattle.bdb_databases.proofs.of_btree.FallLemmas.{tree_keys}
use Rattle.bdb_databases.proofs.of_tree.PairLemmas.{tree_pair_inside}
use Rattle.bdb_databases.proofs.of_buckets.PlainLemmas.{IsPlain, bucket_plain}
use Rattle.bdb_databases.proofs.of_buckets.TableLemmas.{table_is}
use Rattle.bdb_settle.specs.of_text_format.Terms.{holds_records}
use Rattle.bdb_law_kept.proofs.KeyedLemmas.{GoesBefore, HasFitData, NoRowHolds, fit_data, in_order, of_by_key, of_listed, pairs_go, pairs_ordered}
use Rattle.bdb_law_kept.proofs.KeyedLemmas.{table_goes}
use Rattle.bdb_law_kept.specs.Later.{AllLater}
use Rattle.bdb_law_kept.proofs.NumberedLemmas.{IsKeptList, IsNotZero, queue_kept, recno_kept}
use Rattle.bdb_databases.proofs.NameOrderLemmas.{keys_kept}
use Rattle.bdb_databases.proofs.of_hash_list.LookupLemmas.{all_fail_at as table_fails}

-- pairs that go in order, with fit data, give a kept list
pairs_kept : (settings : Settings) (file : File) (pairs : List StoredPair) → holds_records settings.kind ≡ false → settings.fixed ≡ false
    → ((pair : StoredPair) → Contains pairs pair → HasFitData settings file pair) → AllLater (GoesBefore settings file) pairs
    → IsKeptList settings (flat_map (listed_pair file) pairs)
pairs_kept settings file pairs keyed free each goes = record {
  ordered = pairs_ordered settings file pairs keyed each goes;
  long = λ pair at fixed. absurd (true≢false (sym fixed ∙ ap (λ b. b && holds_records settings.kind) free));
  some = λ entry at.
      let pair = of_flat_map (listed_pair file) pairs entry at in
      let found = of_listed file pair.0 entry pair.2 in
      subst (λ (e : ListKey × List ℕ). IsNotZero e.0) found.2 tt;
}

-- Btrees.

tree_fails : (image : List ℕ) (meta : BtreeMeta) (p : ℕ) → is_recno meta ≡ false → database_faults (file_of image) (BtreeFields meta) ≡ []
    → p ≤ (file_of image).last → AllFail (btree_contents (file_of image) meta p)
unfolding database_faults
tree_fails image meta p keyed none low =
    let file : File = file_of image in
    let codes : holding (database_rows file (BtreeFields meta) p) ≡ [] =
    no_codes_at 8 0 (file.last + 1) p (λ q. holding (database_rows file (BtreeFields meta) q)) none (omega arith) (omega arith) in
    all_fail (btree_contents file meta p) (keyed_rows file meta p (is_recno meta) keyed codes)

pub btree_kept : (image : List ℕ) (meta : BtreeMeta) (size : ℕ) (order : Order) → IsForest image → HasMetadata (file_of image) (BtreeFields meta)
    → is_recno meta ≡ false → database_faults (file_of image) (BtreeFields meta) ≡ []
    → IsKeptList (btree_settings size order meta) (btree_list (file_of image) meta.root)
unfolding btree_list
btree_kept image meta size order forest has keyed none =
    let file : File = file_of image in
    let settings : Settings = btree_settings size order meta in
    let pairs : List StoredPair = tree_pairs file meta.root in
    let rows : NoRowHolds settings.duplicates settings.sorted file pairs = record {
      duplicate = λ pair at. (tree_fails image meta pair.page keyed none (tree_pair_inside image meta pair forest has at)).0;
      unsorted = λ pair at. (tree_fails image meta pair.page keyed none (tree_pair_inside image meta pair forest has at)).1.1.1.1.0;
    } in
    pairs_kept settings file pairs refl refl (λ pair at. fit_data settings file pairs pair rows at)
    (pairs_go settings file pairs (tree_keys image meta.root []) (keys_kept image meta forest has keyed none) (in_order settings file pairs rows))

-- Tables.

table_plain : (image : List ℕ) (meta : HashMeta) (pair : StoredPair) → IsForest image → structure_faults (file_of image) ≡ []
    → HasMetadata (file_of image) (HashFields meta) → Contains (table_pairs (file_of image) meta) pair → IsPlain (file_of image) pair
unfolding table_pairs
table_plain image meta pair forest stage has at =
    let file : File = file_of image in
    let found = of_flat_map (bucket_pairs file meta) (range_with_len 0 (meta.max_bucket + 1)) pair at in
    let within = of_range 0 (meta.max_bucket + 1) found.0 found.1 in
    bucket_plain image meta found.0 pair (table_is image meta forest stage has) has (omega (arith, within.1)) found.2

pub no_repeats : (image : List ℕ) (meta : HashMeta) → IsForest image → structure_faults (file_of image) ≡ []
    → HasMetadata (file_of image) (HashFields meta) → database_faults (file_of image) (HashFields meta) ≡ []
    → repeated (table_pairs (file_of image) meta) ≡ []
no_repeats image meta forest stage has none =
    let file : File = file_of image in
    let pairs : List StoredPair = table_pairs file meta in
    is_empty (repeated pairs) (λ pair at.
    let low : pair.page ≤ file.last = (table_plain image meta pair forest stage has (of_repeated pairs pair at)).inside in
    let fail = table_fails image meta pair.page none low in
    true≢false (sym (eq-eqb pair.page pair.page refl)
    ∙ none_passes (λ (other : StoredPair). other.page == pair.page) (repeated pairs) pair fail.1.1.1.1.0 at))

pub hash_kept : (image : List ℕ) (meta : HashMeta) (size : ℕ) (order : Order) → IsForest image → structure_faults (file_of image) ≡ []
    → HasMetadata (file_of image) (HashFields meta) → database_faults (file_of image) (HashFields meta) ≡ []
    → IsKeptList (hash_settings size order meta) (hash_list (file_of image) meta)
unfolding hash_list
hash_kept image meta size order forest stage has none =
    let file : File = file_of image in
    let settings : Settings = hash_settings size order meta in
    let pairs : List StoredPair = table_pairs file meta in
    let inside : (pair : StoredPair) → Contains pairs pair → pair.page ≤ file.last =
    λ pair at. (table_plain image meta pair forest stage has at).inside in
    let rows : NoRowHolds settings.duplicates settings.sorted file pairs = record {
      duplicate = λ pair at. (table_fails image meta pair.page none (inside pair at)).0;
      unsorted = λ pair at. (table_fails image meta pair.page none (inside pair at)).1.1.0;
    } in
    pairs_kept settings file (by_key pairs) refl refl (λ pair at. fit_data settings file pairs pair rows (of_by_key pairs pair at))
    (table_goes settings file pairs (sym (repeated_is pairs) ∙ no_repeats image meta forest stage has none))

-- Any database.

pub list_kept : (image : List ℕ) (fields : Metadata) (size : ℕ) (order : Order) → IsForest image → structure_faults (file_of image) ≡ []
    → HasMetadata (file_of image) fields → database_faults (file_of image) fields ≡ []
    → IsKeptList (settings_of size order fields) (list_of (file_of image) fields)
list_kept image (BtreeFields meta) size order forest stage has none = by_kind (is_recno meta) refl
  where
    by_kind : (b : Bool) → is_recno meta ≡ b
        → IsKeptList (cond b (recno_settings size order meta) (btree_settings size order meta))
        (cond b (recno_list (file_of image) meta.root) (btree_list (file_of image) meta.root))
    by_kind true is = recno_kept image meta size order forest has is none
    by_kind false is = btree_kept image meta size order forest has is none
list_kept image (HashFields meta) size order forest stage has none = hash_kept image meta size order forest stage has none
list_kept image (QueueFields meta) size order forest stage has none = queue_kept image meta size order forest has
