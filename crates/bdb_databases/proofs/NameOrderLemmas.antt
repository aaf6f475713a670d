-- The names that a master gives ascend.
use Rattle.std.proofs.Common.{◌≡◌, ℕ, ◌+◌, ◌<◌, ◌≤◌, Bool, true, false, cond, List, [], ◌∷◌, ◌++◌, length, map, Option, Some, arith, refl, sym, ◌∙◌, ap, subst}
use Rattle.std.proofs.Common.{inl, ◌==◌, ◌&&◌, ◌^◌, nat_lt}
use Rattle.std.specs.List.{Contains, filter, flat_map, list_any}
use Rattle.std.specs.Str.{bytes_eq}
use Rattle.std.proofs.lemmas.Bool.{and_from, and_parts, eq-eqb, or_parts}
use Rattle.std.proofs.lemmas.List.{map-append}
use Rattle.bdb_recno.specs.of_format.declared.metadata.BtreeMeta.{BtreeMeta}
use Rattle.bdb_recno.specs.of_format.Terms.{BtreeFields, File, Meta, Page, StoredPair, ascends, ascends_from, btree_contents, database_faults, database_on}
use Rattle.bdb_recno.specs.of_format.Terms.{database_rows, databases, databases_under, fields_in, file_of, head_of, is_meta, is_out_of_order, is_recno, less}
use Rattle.bdb_recno.specs.of_format.Terms.{master_faults, master_in, master_pairs, named_by, named_database, neighbours, page_at, pairs_under, repeated}
use Rattle.bdb_recno.specs.of_format.Terms.{stage_faults, tree_pairs}
use Rattle.bdb_recno.specs.of_format.Verdict.{holding}
use Rattle.bdb_recno.proofs.of_format.MemberLemmas.{first_member, in_map, is_empty, later_member, no_member, none_passes, of_filter}
use Rattle.bdb_recno.proofs.of_format.VerdictLemmas.{AllFail, all_fail, no_codes_at, none_in}
use Rattle.bdb_recno.proofs.of_format.RepeatLemmas.{repeated_after, repeated_is}
use Rattle.bdb_recno.specs.of_image.Linked.{HasMetadata, IsForest}
use Rattle.bdb_recno.proofs.of_graph.LinkedLemmas.{root_fits}
use Rattle.bdb_recno.proofs.of_graph.ReadLemmas.{master_is, master_keys}
use Rattle.bdb_btree.specs.Bounds.{DontFall, NoneBelow}
use Rattle.bdb_btree.proofs.FallLemmas.{dont_fall, tree_keys}
use Rattle.bdb_btree.proofs.PairLemmas.{tree_pair}
use Rattle.bdb_master.specs.Entries.{fault_at, named}
use Rattle.bdb_any_order.specs.AnyOrder.{contents_by, faults_by_rows}
use Rattle.bdb_databases.specs.Laws.{NamesAscend, NamesAscendInAnyOrder, name_bytes}
use Rattle.bdb_any_order.specs.declared.rows.Rows.TheVariants.{AnyOrder}
use Rattle.bdb_any_order.proofs.DatabaseLemmas.{has_metadata}
use Rattle.bdb_master.proofs.MasterLemmas.{AreInside, master_inside, repeat_here}
use Rattle.bdb_databases.proofs.NamedLemmas.{NamesMeta, entry_names}
use Rattle.bdb_any_order.proofs.OrderLemmas.{master_counts}
use Rattle.bdb_any_order.proofs.RowsLemmas.{contents_kept, early_kept, master_kept, sound_in_any_order}
use Rattle.bdb_recno.proofs.of_format.BoolLemmas.{second_false}
use Rattle.bdb_recno.proofs.of_format.PairLemmas.{neighbour_in, keyed_rows}
use Rattle.bdb_recno.proofs.of_format.LessLemmas.{eq_self, same_unless_less}

-- Lists of pairs whose keys don't fall.

kept_fall : (test : StoredPair → Bool) (pairs : List StoredPair) → DontFall pairs → DontFall (filter test pairs)
kept_fall test [] fall = tt
kept_fall test (pair ∷ pairs) fall = step (test pair) (kept_fall test pairs fall.1)
  where
    step : (b : Bool) → DontFall (filter test pairs) → DontFall (cond b (pair ∷ filter test pairs) (filter test pairs))
    step true after = (λ other at. fall.0 other (of_filter test pairs other at).0, after)
    step false after = after

-- Keys that don't fall and don't repeat ascend.

pub not_repeated : (b : Bool) (pair : StoredPair) (rest : List StoredPair) → cond b (pair ∷ rest) rest ≡ [] → (b ≡ false) × (rest ≡ [])
not_repeated true pair rest none = absurd cc
not_repeated false pair rest none = (refl, none)

ascend_from : (before : StoredPair) (earlier pairs : List StoredPair) → NoneBelow before.key pairs → DontFall pairs
    → repeated_after (before ∷ earlier) pairs ≡ [] → ascends_from before.key (map (λ (pair : StoredPair). pair.key) pairs) ≡ true
ascend_from before earlier [] above fall none = refl
ascend_from before earlier (pair ∷ pairs) above fall none =
    let parts =
    not_repeated (list_any (λ (other : StoredPair). bytes_eq other.key pair.key) (before ∷ earlier)) pair
    (repeated_after (pair ∷ before ∷ earlier) pairs) none in
    let apart : bytes_eq before.key pair.key ≡ false =
    (or_parts (bytes_eq before.key pair.key) (list_any (λ (other : StoredPair). bytes_eq other.key pair.key) earlier) parts.0).0 in
    and_from (less before.key pair.key) (ascends_from pair.key (map (λ (one : StoredPair). one.key) pairs))
    (grind (arith, same_unless_less before.key pair.key, above pair (first_member pair pairs), eq_self before.key, apart))
    (ascend_from pair (before ∷ earlier) pairs fall.0 fall.1 parts.1)

ascend : (pairs : List StoredPair) → DontFall pairs → repeated_after [] pairs ≡ [] → ascends (map (λ (pair : StoredPair). pair.key) pairs) ≡ true
ascend [] fall none = refl
ascend (pair ∷ pairs) fall none = ascend_from pair [] pairs fall.0 fall.1 none

-- The files on which no row counts in any order.

forest_of : (image : List ℕ) → length image ≤ 2 ^ 30 → faults_by_rows AnyOrder image ≡ [] → IsForest image
forest_of image size none =
    let kept : (stage : ℕ) → 1 ≤ stage → stage < 8 → stage_faults image stage ≡ [] = λ stage low high. early_kept image stage none low high in
    record {
      formed = record {
        size = size;
        head_is = refl;
        form = none_in image (1 ∷ 2 ∷ []) (kept 1 (omega arith) (omega arith), (kept 2 (omega arith) (omega arith), tt));
      };
      linked = none_in image (3 ∷ 4 ∷ 5 ∷ [])
          (kept 3 (omega arith) (omega arith), (kept 4 (omega arith) (omega arith), (kept 5 (omega arith) (omega arith), tt)));
    }

-- The pairs of a master.

pub keys_kept : (image : List ℕ) (meta : BtreeMeta) → IsForest image → HasMetadata (file_of image) (BtreeFields meta) → is_recno meta ≡ false
    → database_faults (file_of image) (BtreeFields meta) ≡ []
    → (two : StoredPair × StoredPair) → Contains (neighbours (tree_pairs (file_of image) meta.root)) two → is_out_of_order two ≡ false
unfolding database_faults
keys_kept image meta forest has keys none two at =
    let file : File = file_of image in
    let pairs : List StoredPair = tree_pairs file meta.root in
    let p : ℕ = two.1.page in
    let low : p ≤ file.last =
    (tree_pair image meta.root two.1 forest (inl (root_fits image (head_of image) meta forest.formed has)) (neighbour_in pairs two at)).inside in
    let codes : holding (database_rows file (BtreeFields meta) p) ≡ [] =
    no_codes_at 8 0 (file.last + 1) p (λ q. holding (database_rows file (BtreeFields meta) q)) none (omega arith) (omega arith) in
    let fail : AllFail (btree_contents file meta p) = all_fail (btree_contents file meta p) (keyed_rows file meta p (is_recno meta) keys codes) in
    second_false (p == p) (is_out_of_order two) (eq-eqb p p refl)
    (none_passes (λ (other : StoredPair × StoredPair). other.1.page == p && is_out_of_order other) (neighbours pairs) two fail.1.1.0 at)

-- no pair of a master has the key of an earlier one
pub none_repeats : (file : File) → AreInside file → master_faults file ≡ [] → repeated (master_pairs file) ≡ []
none_repeats file inside none =
    is_empty (repeated (master_pairs file)) (λ pair at. no_member (master_faults file) (fault_at pair.page 4) none (repeat_here file pair inside at))

-- The databases of a master have the keys of its pairs as names.

one_name : (file : File) (key : List ℕ) (names : Option ℕ) (p : ℕ) → names ≡ Some p → is_meta (page_at file p) ≡ true
    → map name_bytes (database_on file (Some key) names) ≡ key ∷ []
one_name file key names p is meta = ap (λ n. map name_bytes (database_on file (Some key) n)) is ∙ step (page_at file p) meta
  where
    step : (page : Page) → is_meta page ≡ true
        → map name_bytes (map (λ fields. record { name = Some key; fields = fields }) (fields_in page)) ≡ key ∷ []
    step (Meta fields) meta = refl
    step page other = absurd cc

pair_name : (file : File) (pair : StoredPair) → AreInside file → master_faults file ≡ [] → Contains (master_pairs file) pair
    → map name_bytes (named_database file pair) ≡ pair.key ∷ []
pair_name file pair inside none at =
    let names : NamesMeta file (named file pair) = entry_names file (named file pair) inside none (in_map (named file) (master_pairs file) pair at) in
    one_name file pair.key (named_by file pair.data_item) names.page names.names_are
    (and_parts (nat_lt 0 names.page) (is_meta (page_at file names.page)) names.kind).1

all_names : (file : File) (pairs : List StoredPair)
    → ((pair : StoredPair) → Contains pairs pair → map name_bytes (named_database file pair) ≡ pair.key ∷ [])
    → map name_bytes (flat_map (named_database file) pairs) ≡ map (λ (pair : StoredPair). pair.key) pairs
all_names file [] each = refl
all_names file (pair ∷ pairs) each =
    map-append name_bytes (named_database file pair) (flat_map (named_database file) pairs)
    ∙ (ap (λ names. names ++ map name_bytes (flat_map (named_database file) pairs)) (each pair (first_member pair pairs))
    ∙ ap (λ names. pair.key ∷ names) (all_names file pairs (λ other at. each other (later_member pair pairs other at))))

-- the master's own rules are kept
master_rules : (image : List ℕ) (meta : BtreeMeta) → faults_by_rows AnyOrder image ≡ [] → master_in (page_at (file_of image) 0) ≡ Some meta
    → database_faults (file_of image) (BtreeFields meta) ≡ []
master_rules image meta counted is =
    is_empty (database_faults (file_of image) (BtreeFields meta))
    (λ fault at. no_member (contents_by AnyOrder (file_of image)) fault (contents_kept image counted) (master_counts image meta fault is at))

pub names_ascend_in_any_order : NamesAscendInAnyOrder
unfolding databases master_pairs
names_ascend_in_any_order image meta size counted is =
    let file : File = file_of image in
    let forest : IsForest image = forest_of image size counted in
    let none : master_faults file ≡ [] = master_kept image counted in
    let inside : AreInside file = master_inside image forest in
    let page : page_at file 0 ≡ Meta (BtreeFields meta) = master_is (page_at file 0) meta is in
    let has : HasMetadata file (BtreeFields meta) = has_metadata file 0 (BtreeFields meta) (omega arith) page in
    let keys : is_recno meta ≡ false = master_keys image meta forest is in
    let pairs : List StoredPair = tree_pairs file meta.root in
    let fall : DontFall pairs =
    dont_fall pairs (tree_keys image meta.root []) (keys_kept image meta forest has keys (master_rules image meta counted is)) in
    let live : master_pairs file ≡ filter (λ (pair : StoredPair). pair.live) pairs = ap (pairs_under file) is in
    let master_fall : DontFall (master_pairs file) = subst DontFall (sym live) (kept_fall (λ (pair : StoredPair). pair.live) pairs fall) in
    let names : map name_bytes (databases file) ≡ map (λ (pair : StoredPair). pair.key) (master_pairs file) =
    ap (λ found. map name_bytes (databases_under file found)) is
    ∙ all_names file (master_pairs file) (λ pair at. pair_name file pair inside none at) in
    ap ascends names ∙ ascend (master_pairs file) master_fall (sym (repeated_is (master_pairs file)) ∙ none_repeats file inside none)

pub names_ascend : NamesAscend
names_ascend image meta size sound is = names_ascend_in_any_order image meta size (sound_in_any_order image sound) is
