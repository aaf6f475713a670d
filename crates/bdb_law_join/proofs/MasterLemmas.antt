-- A master whose entries name each other metadata page once keeps the rules of stage 7.
use Rattle.std.proofs.Common.{◌≡◌, ℕ, zero, suc, ◌+◌, ◌≤◌, Bool, true, false, not, cond, List, [], ◌∷◌, ◌++◌, map, length, None, Some, arith, refl, sym, ◌∙◌}
use Rattle.std.proofs.Common.{ap, subst, inl, inr, ◌==◌, ◌&&◌, nat_lt}
use Rattle.std.specs.List.{Contains, filter, flat_map, list_any}
use Rattle.std.specs.Str.{bytes_eq}
use Rattle.std.proofs.lemmas.Bool.{cases_Bool, cases_lt, and_left, and_right, and_parts, eq-eqb, lt-ltb, or_parts, and_from}
use Rattle.std.proofs.lemmas.List.{get_or_past}
use Rattle.bdb_graph.specs.of_format.declared.metadata.BtreeMeta.{BtreeMeta}
use Rattle.bdb_graph.specs.of_format.Terms.{BtreeFields, BytesKey, Chain, Content, File, Inline, Meta, NoType, Set, StoredPair, Tree, Unknown, btree_contents}
use Rattle.bdb_graph.specs.of_format.Terms.{btree_list, data_of, database_rows, file_of, has_duplicate, has_duplicates, head_of, is_duplicate, is_key, is_meta}
use Rattle.bdb_graph.specs.of_format.Terms.{is_named_kind, is_none, is_page, is_recno, is_set, leaves, listed_pair, master_faults, master_in, master_pairs}
use Rattle.bdb_graph.specs.of_format.Terms.{master_rows, misses_target, named_by, names_databases, naming, page_at, page_bytes, page_named, pairs_in, pairs_of}
use Rattle.bdb_graph.specs.of_format.Terms.{pairs_under, recno_contents, repeated, tree_pairs, value_of}
use Rattle.bdb_graph.specs.of_format.Verdict.{holding}
use Rattle.bdb_graph.proofs.of_format.MemberLemmas.{first_member, in_filter, in_map, later_member, member_cases, no_member, none_pass, none_passes}
use Rattle.bdb_graph.proofs.of_format.MemberLemmas.{of_filter, of_flat_map}
use Rattle.bdb_graph.proofs.of_format.RepeatLemmas.{repeated_after, repeated_is}
use Rattle.bdb_graph.proofs.of_format.VerdictLemmas.{AllFail, all_fail, no_faults, none_holds}
use Rattle.bdb_graph.proofs.of_format.FileLemmas.{last_page, page_is, pages_counted}
use Rattle.bdb_law_join.specs.Joining.{AreJoined, HasForm, IsJoined, IsMetaOf, Joint}
use Rattle.bdb_law_join.specs.Masters.{AreNamesApart, MasterPair, IsUnderMaster}
use Rattle.bdb_law_join.proofs.FirstLemmas.{first_flags, master_is_keyed}
use Rattle.bdb_law_join.proofs.KnownLemmas.{IsKnown, pairs_known}
use Rattle.bdb_law_join.proofs.RoleLemmas.{no_meta_inside}
use Rattle.bdb_law_join.proofs.SourceLemmas.{page_of_meta}
use Rattle.bdb_law_join.proofs.StageLemmas.{fields_same}

-- a pair of the master as an entry of its list
abbrev pub entry_of : File → StoredPair → MasterPair
entry_of file pair = (BytesKey pair.key, value_of file pair.data_item)

abbrev is_live : StoredPair → Bool
is_live pair = pair.live

-- The values of the pairs.

-- data that are one value
abbrev IsValue : File → StoredPair → Type 0
IsValue file pair = data_of file pair.data_item ≡ value_of file pair.data_item ∷ []

one_value : (file : File) (content : Content) → is_set content ≡ false → IsKnown content → data_of file content ≡ value_of file content ∷ []
unfolding data_of value_of
one_value file (Inline bytes) alone known = refl
one_value file (Chain head total) alone known = refl
one_value file (Set blocks) alone known = absurd cc
one_value file (Tree root) alone known = absurd cc
one_value file Unknown alone known = absurd (known refl)

-- page 0 is the metadata page of a joint, whose fields are the master's
master_rows_of : (file : File) (joints : List Joint) (meta : BtreeMeta) (p : ℕ) → AreJoined file joints → page_at file 0 ≡ Meta (BtreeFields meta)
    → AllFail (database_rows file (BtreeFields meta) p)
master_rows_of file joints meta p all is =
    elim (all.shared_out.each 0 (omega arith)) [
      | inl (j, member, zero') ↦
          let same : j.part.fields ≡ BtreeFields meta =
          fields_same j.part.fields (BtreeFields meta) (sym (page_of_meta file joints j 0 all member zero') ∙ is) in
          subst (λ f. AllFail (database_rows file f p)) same (all_fail (database_rows file j.part.fields p) ((all.parts j member).contents p))
      | inr (j, member, inside) ↦ absurd (omega (arith, (all.parts j member).branch.grove.low 0 inside))
    ]

-- no pair of it is a set
no_sets : (file : File) (joints : List Joint) (meta : BtreeMeta) (pair : StoredPair) → AreJoined file joints
    → page_at file 0 ≡ Meta (BtreeFields meta) → is_recno meta ≡ false → has_duplicates (BtreeFields meta) ≡ false
    → Contains (tree_pairs file meta.root) pair → is_set pair.data_item ≡ false
no_sets file joints meta pair all is keyed plain at =
    let p : ℕ = pair.page in
    let pairs : List StoredPair = tree_pairs file meta.root in
    let fail : AllFail (btree_contents file meta p) =
    subst (λ b. AllFail (cond b (recno_contents file meta p) (btree_contents file meta p))) keyed (master_rows_of file joints meta p all is) in
    let none : has_duplicate pairs p ≡ false = sym (ap (λ b. not b && has_duplicate pairs p) plain) ∙ fail.0 in
    let two : ((pair.page == p) && is_duplicate pair) ≡ false =
    none_passes (λ (other : StoredPair). other.page == p && is_duplicate other) pairs pair none at in
    let one : is_duplicate pair ≡ false = sym (ap (λ b. b && is_duplicate pair) (eq-eqb p p refl)) ∙ two in
    (or_parts pair.shares (is_set pair.data_item) one).1

-- each holds an item of a known kind
all_known : (image : List ℕ) (root : ℕ) (pair : StoredPair) → HasForm image → Contains (tree_pairs (file_of image) root) pair → IsKnown pair.data_item
unfolding tree_pairs pairs_of
all_known image root pair form at =
    let file : File = file_of image in
    let found = of_flat_map (pairs_of file) (leaves file root) pair at in
    let p : ℕ = found.0 in
    elim (cases_lt p (length file.pages)) [
      | inl below ↦
          let high : p ≤ (head_of image).last = omega (arith, below, pages_counted image, last_page image) in
          pairs_known file (head_of image) p (page_bytes (head_of image) image p) pair (form.formed p high)
          (subst (λ page. Contains (pairs_in file p page) pair) (page_is image p high) found.2)
      | inr past ↦ absurd (no_member (pairs_in file p (page_at file p)) pair (ap (pairs_in file p) (get_or_past file.pages p NoType past)) found.2)
    ]

keyed_master : (image : List ℕ) (joints : List Joint) (meta : BtreeMeta) (entries : List MasterPair) → IsJoined image joints
    → IsUnderMaster (file_of image) joints meta entries → is_recno meta ≡ false
keyed_master image joints meta entries is under = grind (arith, page_is, master_is_keyed, first_flags)

values : (image : List ℕ) (joints : List Joint) (meta : BtreeMeta) (entries : List MasterPair) (pair : StoredPair) → IsJoined image joints
    → IsUnderMaster (file_of image) joints meta entries → Contains (filter is_live (tree_pairs (file_of image) meta.root)) pair
    → IsValue (file_of image) pair
values image joints meta entries pair is under at =
    let file : File = file_of image in
    let there : Contains (tree_pairs file meta.root) pair = (of_filter is_live (tree_pairs file meta.root) pair at).0 in
    one_value file pair.data_item
    (no_sets file joints meta pair is.joined under.is (keyed_master image joints meta entries is under) under.plain there)
    (all_known image meta.root pair is.form there)

-- Its list.

list_step : (file : File) (pair : StoredPair) (rest : List StoredPair) (others : List MasterPair) (b : Bool) → (b ≡ true → IsValue file pair)
    → others ≡ map (entry_of file) rest
    → cond b (map (λ value. (BytesKey pair.key, value)) (data_of file pair.data_item)) [] ++ others ≡ map (entry_of file) (cond b (pair ∷ rest) rest)
list_step file pair rest others true value same =
    ap (λ bs. map (λ v. (BytesKey pair.key, v)) bs ++ others) (value refl) ∙ ap (λ es. entry_of file pair ∷ es) same
list_step file pair rest others false value same = same

-- the list of pairs whose live ones have one value each
list_of_live : (file : File) (pairs : List StoredPair) → ((pair : StoredPair) → Contains (filter is_live pairs) pair → IsValue file pair)
    → flat_map (listed_pair file) pairs ≡ map (entry_of file) (filter is_live pairs)
list_of_live file [] each = refl
list_of_live file (pair ∷ pairs) each =
    list_step file pair (filter is_live pairs) (flat_map (listed_pair file) pairs) pair.live
    (λ live. each pair (in_filter is_live (pair ∷ pairs) pair (first_member pair pairs) live))
    (list_of_live file pairs (λ x at.
    let kept = of_filter is_live pairs x at in each x (in_filter is_live (pair ∷ pairs) x (later_member pair pairs x kept.0) kept.1)))

pub master_is : (file : File) (meta : BtreeMeta) → page_at file 0 ≡ Meta (BtreeFields meta) → names_databases meta ≡ true
    → master_in (page_at file 0) ≡ Some meta
master_is file meta is master = ap master_in is ∙ ap (λ b. cond b (Some meta) None) master

pairs_are : (file : File) (meta : BtreeMeta) → page_at file 0 ≡ Meta (BtreeFields meta) → names_databases meta ≡ true
    → master_pairs file ≡ filter is_live (tree_pairs file meta.root)
unfolding master_pairs
pairs_are file meta is master = ap (pairs_under file) (master_is file meta is master)

-- the entries are those of the pairs
pub entries_are : (image : List ℕ) (joints : List Joint) (meta : BtreeMeta) (entries : List MasterPair) → IsJoined image joints
    → IsUnderMaster (file_of image) joints meta entries → entries ≡ map (entry_of (file_of image)) (master_pairs (file_of image))
unfolding btree_list
entries_are image joints meta entries is under = grind (arith, keyed_master, list_of_live, values, pairs_are)

-- What the pairs name.

-- what an item names is in its value
pub named_is : (file : File) (content : Content) → named_by file content ≡ page_named (value_of file content)
unfolding value_of
named_is file (Inline bytes) = refl
named_is file (Set blocks) = refl
named_is file (Chain head total) = refl
named_is file (Tree root) = refl
named_is file Unknown = refl

-- a pair that names a metadata page above page 0
abbrev pub Names : File → List Joint → StoredPair → Type 0
Names file joints pair = (p : ℕ) × (named_by file pair.data_item ≡ Some p) × (1 ≤ p) × IsMetaOf joints p

-- each pair of the master does
pub pair_names : (image : List ℕ) (joints : List Joint) (meta : BtreeMeta) (entries : List MasterPair) (pair : StoredPair) → IsJoined image joints
    → IsUnderMaster (file_of image) joints meta entries → Contains (master_pairs (file_of image)) pair → Names (file_of image) joints pair
pair_names image joints meta entries pair is under at =
    let file : File = file_of image in
    let listed : Contains entries (entry_of file pair) =
    subst (λ es. Contains es (entry_of file pair)) (sym (entries_are image joints meta entries is under))
    (in_map (entry_of file) (master_pairs file) pair at) in
    let found = under.named.nothing_else (entry_of file pair) listed in
    (found.0, named_is file pair.data_item ∙ found.1, found.2, found.3)

count_step : (b c : Bool) (pair : StoredPair) (pairs : List StoredPair) (entry : MasterPair) (entries : List MasterPair) → b ≡ c
    → length pairs ≡ length entries → length (cond b (pair ∷ pairs) pairs) ≡ length (cond c (entry ∷ entries) entries)
count_step true true pair pairs entry entries same rest = omega (arith, rest)
count_step true false pair pairs entry entries same rest = absurd cc
count_step false true pair pairs entry entries same rest = absurd cc
count_step false false pair pairs entry entries same rest = rest

naming_count : (file : File) (p : ℕ) (pairs : List StoredPair)
    → length (filter (λ (pair : StoredPair). is_page (named_by file pair.data_item) p) pairs)
    ≡ length (filter (λ (entry : MasterPair). is_page (page_named entry.1) p) (map (entry_of file) pairs))
naming_count file p [] = refl
naming_count file p (pair ∷ pairs) =
    count_step _ _ pair _ (entry_of file pair) _ (ap (λ named. is_page named p) (named_is file pair.data_item)) (naming_count file p pairs)

named_once : (image : List ℕ) (joints : List Joint) (meta : BtreeMeta) (entries : List MasterPair) (p : ℕ) → IsJoined image joints
    → IsUnderMaster (file_of image) joints meta entries → 1 ≤ p → IsMetaOf joints p → length (naming (file_of image) p) ≡ 1
named_once image joints meta entries p is under above of =
    naming_count (file_of image) p (master_pairs (file_of image))
    ∙ (ap (λ es. length (filter (λ (entry : MasterPair). is_page (page_named entry.1) p) es)) (sym (entries_are image joints meta entries is under))
    ∙ under.named.once p above of)

-- names apart aren't repeated
no_repeats : (file : File) (earlier pairs : List StoredPair)
    → ((e x : StoredPair) → Contains earlier e → Contains pairs x → bytes_eq e.key x.key ≡ false)
    → AreNamesApart (map (entry_of file) pairs) → repeated_after earlier pairs ≡ []
no_repeats file earlier [] apart names = refl
no_repeats file earlier (pair ∷ pairs) apart names =
    ap (λ b. cond b (pair ∷ repeated_after (pair ∷ earlier) pairs) (repeated_after (pair ∷ earlier) pairs))
    (none_pass (λ (other : StoredPair). bytes_eq other.key pair.key) earlier (λ other at. apart other pair at (first_member pair pairs)))
    ∙ no_repeats file (pair ∷ earlier) pairs
    (λ e x at later. elim (member_cases pair earlier e at) [
      | inl here ↦
          let differs : is_key (BytesKey pair.key) (BytesKey x.key) ≡ false =
          names.0 (entry_of file x) (in_map (entry_of file) pairs x later) in
          subst (λ (y : StoredPair). bytes_eq y.key x.key ≡ false) here differs
      | inr before ↦ apart e x before (later_member pair pairs x later)
    ])
    names.1

-- Stage 7.

above_zero : (file : File) (p : ℕ) → is_named_kind file p ≡ true → (1 ≤ p) × (is_meta (page_at file p) ≡ true)
above_zero file zero is = absurd cc
above_zero file (suc p) is = (omega arith, (and_parts (nat_lt 0 (suc p)) (is_meta (page_at file (suc p))) is).1)

of_named_kind : (file : File) (p : ℕ) → 1 ≤ p → is_meta (page_at file p) ≡ true → is_named_kind file p ≡ true
of_named_kind file p above is = and_from (nat_lt 0 p) (is_meta (page_at file p)) (lt-ltb 0 p above) is

meta_of : (file : File) (joints : List Joint) (p : ℕ) → AreJoined file joints → p ≤ file.last → is_meta (page_at file p) ≡ true → IsMetaOf joints p
meta_of file joints p all high is =
    elim (all.shared_out.each p high) [
      | inl of ↦ of
      | inr (j, member, inside) ↦ absurd (no_meta_inside file joints j p all member inside is)
    ]

is_meta_of : (file : File) (joints : List Joint) (p : ℕ) → AreJoined file joints → IsMetaOf joints p → is_meta (page_at file p) ≡ true
is_meta_of file joints p all (j, member, same) = ap is_meta (page_of_meta file joints j p all member same)

-- a row on metadata pages above 0 fails where its test does for a page that is named once
counted_row : (image : List ℕ) (joints : List Joint) (meta : BtreeMeta) (entries : List MasterPair) (p : ℕ) (test : ℕ → Bool) → IsJoined image joints
    → IsUnderMaster (file_of image) joints meta entries → p ≤ (file_of image).last → test 1 ≡ false
    → (is_named_kind (file_of image) p && test (length (naming (file_of image) p))) ≡ false
counted_row image joints meta entries p test is under high fails = grind (arith, cases_Bool, above_zero, named_once, meta_of, and_right, and_left)

named_row : (image : List ℕ) (joints : List Joint) (meta : BtreeMeta) (entries : List MasterPair) (pair : StoredPair) → IsJoined image joints
    → IsUnderMaster (file_of image) joints meta entries → Contains (master_pairs (file_of image)) pair
    → (is_none (named_by (file_of image) pair.data_item) ≡ false) × (misses_target (file_of image) (named_by (file_of image) pair.data_item) ≡ false)
named_row image joints meta entries pair is under at =
    let file : File = file_of image in
    let found = pair_names image joints meta entries pair is under at in (
      ap is_none found.1,
      ap (misses_target file) found.1 ∙ ap not (of_named_kind file found.0 found.2 (is_meta_of file joints found.0 is.joined found.3)),
    )

pub master_none : (image : List ℕ) (joints : List Joint) (meta : BtreeMeta) (entries : List MasterPair) → IsJoined image joints
    → IsUnderMaster (file_of image) joints meta entries → master_faults (file_of image) ≡ []
unfolding master_faults
master_none image joints meta entries is under =
    let file : File = file_of image in
    let pairs : List StoredPair = master_pairs file in
    let repeats : repeated pairs ≡ [] =
    repeated_is pairs
    ∙ no_repeats file [] pairs (λ e x at later. absurd (no_member [] e refl at))
    (subst AreNamesApart (entries_are image joints meta entries is under) under.named.names) in
    no_faults 7 0 (file.last + 1) (λ p. holding (master_rows file p)) (λ p low high.
    none_holds (master_rows file p) (
      counted_row image joints meta entries p (λ n. n == 0) is under (omega arith) refl,
      (
        none_pass (λ (pair : StoredPair). pair.page == p && is_none (named_by file pair.data_item)) pairs
            (λ pair at. and_right (pair.page == p) (is_none (named_by file pair.data_item)) (named_row image joints meta entries pair is under at).0),
        (
          none_pass (λ (pair : StoredPair). pair.page == p && misses_target file (named_by file pair.data_item)) pairs
              (λ pair at. and_right (pair.page == p) (misses_target file (named_by file pair.data_item))
              (named_row image joints meta entries pair is under at).1),
          (
            ap (list_any (λ (pair : StoredPair). pair.page == p)) repeats,
            (counted_row image joints meta entries p (λ n. nat_lt 1 n) is under (omega arith) refl, tt),
          ),
        ),
      ),
    ))
