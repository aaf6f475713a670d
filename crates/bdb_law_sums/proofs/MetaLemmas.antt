-- The metadata pages of a file are page 0 and those that its master names, each once.
use Rattle.std.proofs.Common.{◌≡◌, ◌≢◌, ℕ, ◌+◌, ◌*◌, ◌≤◌, ◌^◌, Bool, true, false, cond, List, [], ◌∷◌, ◌++◌, map, length, add-one, arith, refl, sym, ◌∙◌, ap}
use Rattle.std.proofs.Common.{inl, inr, ◌==◌, ◌&&◌, nat_lt, not, Option, Some, None, option_to_list}
use Rattle.std.specs.List.{Contains, filter, flat_map, range_with_len, sum_by}
use Rattle.std.proofs.lemmas.Bool.{and_from, and_parts, cases_Bool, eq-eqb, eqb-false, lt-ltb, ltb-false, ltb-true, ne_eqb, not-false}
use Rattle.std.proofs.lemmas.List.Sums.{length-filter, sum_by-cons}
use Rattle.bdb_tree.specs.of_format.declared.metadata.Head.{Head}
use Rattle.bdb_tree.specs.of_format.declared.metadata.FileKind.TheVariants.{Queue as QueueFile}
use Rattle.bdb_tree.specs.of_format.Terms.{BtreeFields, Database, File, HashFields, Meta, Metadata, Page, QueueFields, StoredPair, abstract_page, database_on}
use Rattle.bdb_tree.specs.of_format.Terms.{databases, databases_under, faults_of, fields_in, fields_of, file_of, has_type, head_of, is_meta, is_named_kind}
use Rattle.bdb_tree.specs.of_format.Terms.{is_page, master_faults, master_in, master_pairs, master_rows, misses_target, named_by, named_database, naming}
use Rattle.bdb_tree.specs.of_format.Terms.{page_at, page_bytes, pairs_under, type_in}
use Rattle.bdb_tree.proofs.of_format.BoolLemmas.{second_false}
use Rattle.bdb_tree.proofs.of_format.ListLemmas.{only_member}
use Rattle.bdb_tree.proofs.of_format.MemberLemmas.{none_passes, no_member, of_flat_map, of_range}
use Rattle.bdb_tree.proofs.of_format.VerdictLemmas.{AllFail, no_rows_at, no_stage, none_in}
use Rattle.bdb_tree.proofs.of_format.FileLemmas.{page_is}
use Rattle.bdb_tree.specs.of_image.Linked.{IsForest}
use Rattle.bdb_tree.proofs.of_graph.ReadLemmas.{master_is}
use Rattle.bdb_tree.proofs.PairLemmas.{master_pair_inside}
use Rattle.bdb_tree.proofs.TreeLemmas.{typed_inside}
use Rattle.bdb_law_sums.specs.Counting.{times}
use Rattle.bdb_law_sums.specs.Databases.{IsSoundForest, MetadataAreDatabases, master_fields}
use Rattle.bdb_law_sums.proofs.CountLemmas.{by_page, sum_none, sum_parts, sum_same}
use Rattle.bdb_law_sums.proofs.NameLemmas.{sum_map}

-- what the metadata of a page weighs; another page weighs nothing
abbrev meta_weight : File → (Metadata → ℕ) → ℕ → ℕ
meta_weight file weight p = sum_by weight (fields_in (page_at file p))

no_fields : (page : Page) → is_meta page ≡ false → fields_in page ≡ []
no_fields (Meta fields) other = absurd cc
no_fields page other = refl

weighs_nothing : (file : File) (weight : Metadata → ℕ) (p : ℕ) → is_meta (page_at file p) ≡ false → meta_weight file weight p ≡ 0
weighs_nothing file weight p other = ap (sum_by weight) (no_fields (page_at file p) other)

-- what all metadata weighs is had page by page
pub fields_by_page : (image : List ℕ) (weight : Metadata → ℕ)
    → sum_by weight (fields_of (file_of image)) ≡ sum_by (meta_weight (file_of image) weight) (range_with_len 0 ((file_of image).last + 1))
unfolding file_of
fields_by_page image weight =
    let head : Head = head_of image in
    let pages : List ℕ = range_with_len 0 (head.last + 1) in
    let read : ℕ → Page = λ p. abstract_page head.order (page_bytes head image p) in
    let f : Page → ℕ = λ page. sum_by weight (fields_in page) in
    sum_parts weight fields_in (map read pages)
    ∙ (sum_map f read pages
    ∙ sum_same (λ p. f (read p)) (meta_weight (file_of image) weight) pages
    (λ p at. ap f (sym (page_is image p (omega (arith, of_range 0 (head.last + 1) p at))))))

meta_type : (page : Page) → is_meta page ≡ true → has_type (8 ∷ 9 ∷ 10 ∷ []) (type_in page) ≡ true
meta_type (Meta (BtreeFields meta)) is = refl
meta_type (Meta (HashFields meta)) is = refl
meta_type (Meta (QueueFields meta)) is = refl
meta_type page is = absurd cc

first_of_range : (f : ℕ → ℕ) (n : ℕ) → sum_by f (range_with_len 0 (n + 1)) ≡ f 0 + sum_by f (range_with_len 1 n)
first_of_range f n = ap (λ k. sum_by f (range_with_len 0 k)) (add-one n) ∙ sum_by-cons f 0 (range_with_len 1 n)

-- The pairs of a master.

-- no row of a master holds at a page
rows_fail : (file : File) (p : ℕ) → master_faults file ≡ [] → p ≤ file.last → AllFail (master_rows file p)
unfolding master_faults
rows_fail file p none low = no_rows_at 7 0 (file.last + 1) p (master_rows file) none (omega arith) (omega arith)

-- the page that a pair of a master names is metadata above page 0
pub record NamesMeta (file : File) (p : ℕ) : Type 0 where
  pub above : 1 ≤ p
  pub is : is_meta (page_at file p) ≡ true

names_meta : (image : List ℕ) (pair : StoredPair) (p : ℕ) → IsForest image → master_faults (file_of image) ≡ []
    → Contains (master_pairs (file_of image)) pair → named_by (file_of image) pair.data_item ≡ Some p → NamesMeta (file_of image) p
names_meta image pair p forest none at names =
    let file : File = file_of image in
    let fail = rows_fail file pair.page none (master_pair_inside image pair forest at) in
    let hits : (pair.page == pair.page && misses_target file (named_by file pair.data_item)) ≡ false =
    none_passes (λ (other : StoredPair). other.page == pair.page && misses_target file (named_by file other.data_item))
    (master_pairs file) pair fail.1.1.0 at in
    let right : not (is_named_kind file p) ≡ false =
    sym (ap (misses_target file) names) ∙ second_false (pair.page == pair.page) (misses_target file (named_by file pair.data_item))
    (eq-eqb pair.page pair.page refl) hits in
    let both = and_parts (nat_lt 0 p) (is_meta (page_at file p)) (not-false _ right) in
    record { above = ltb-true 0 p both.0; is = both.1 }

-- The pages that a master names.

-- the page that a pair names, as a list of it alone
abbrev named_page : File → StoredPair → List ℕ
named_page file pair = option_to_list (named_by file pair.data_item)

one_named : (o : Option ℕ) (q : ℕ) → sum_by (λ p. cond (p == q) 1 0) (option_to_list o) ≡ cond (is_page o q) 1 0
one_named None q = refl
one_named (Some p) q = omega arith

-- a page is named as often as pairs name it
times_named : (file : File) (q : ℕ) → times q (flat_map (named_page file) (master_pairs file)) ≡ length (naming file q)
times_named file q =
    let one : ℕ → ℕ = λ p. cond (p == q) 1 0 in
    let test : StoredPair → Bool = λ (pair : StoredPair). is_page (named_by file pair.data_item) q in
    sum_parts one (named_page file) (master_pairs file)
    ∙ (sum_same (λ pair. sum_by one (named_page file pair)) (λ pair. cond (test pair) 1 0) (master_pairs file)
    (λ pair at. one_named (named_by file pair.data_item) q)
    ∙ sym (length-filter test (master_pairs file)))

database_weight : (file : File) (weight : Metadata → ℕ) (name : Option (List ℕ)) (o : Option ℕ)
    → sum_by (λ (database : Database). weight database.fields) (database_on file name o) ≡ sum_by (meta_weight file weight) (option_to_list o)
database_weight file weight name None = refl
database_weight file weight name (Some p) =
    omega (
      arith,
      sum_map (λ (database : Database). weight database.fields) (λ fields. record { name = name; fields = fields })
          (fields_in (page_at file p)),
    )

-- the databases that pairs name weigh what the pages that they name do
databases_weight : (file : File) (weight : Metadata → ℕ) (pairs : List StoredPair)
    → sum_by weight (map (λ (database : Database). database.fields) (flat_map (named_database file) pairs)) ≡ sum_by (meta_weight file weight)
    (flat_map (named_page file) pairs)
databases_weight file weight pairs =
    let g : Database → ℕ = λ (database : Database). weight database.fields in
    sum_map weight (λ (database : Database). database.fields) (flat_map (named_database file) pairs)
    ∙ (sum_parts g (named_database file) pairs
    ∙ (sum_same (λ pair. sum_by g (named_database file pair)) (λ pair. sum_by (meta_weight file weight) (named_page file pair)) pairs (λ pair at.
    database_weight file weight (Some pair.key) (named_by file pair.data_item))
    ∙ sym (sum_parts (meta_weight file weight) (named_page file) pairs)))

-- each page that is named stands in the file above page 0
named_inside : (image : List ℕ) (p : ℕ) → IsForest image → master_faults (file_of image) ≡ []
    → Contains (flat_map (named_page (file_of image)) (master_pairs (file_of image))) p → NamesMeta (file_of image) p
named_inside image p forest none at =
    let file : File = file_of image in
    let found = of_flat_map (named_page file) (master_pairs file) p at in
    names_meta image found.0 p forest none found.1 (only (named_by file found.0.data_item) found.2)
  where
    only : (o : Option ℕ) → Contains (option_to_list o) p → o ≡ Some p
    only None at = absurd (no_member [] p refl at)
    only (Some q) at = ap Some (only_member q p at)

-- a metadata page above page 0 is named once
pub named_once : (file : File) (p : ℕ) → master_faults file ≡ [] → p ≤ file.last → 1 ≤ p → is_meta (page_at file p) ≡ true → length (naming file p) ≡ 1
named_once file p none low above is =
    let fail = rows_fail file p none low in
    let kind : is_named_kind file p ≡ true = and_from (nat_lt 0 p) (is_meta (page_at file p)) (lt-ltb 0 p above) is in
    let some : (length (naming file p) == 0) ≡ false = second_false (is_named_kind file p) (length (naming file p) == 0) kind fail.0 in
    let few : nat_lt 1 (length (naming file p)) ≡ false =
    second_false (is_named_kind file p) (nat_lt 1 (length (naming file p))) kind fail.1.1.1.1.0 in
    let one_at_most : length (naming file p) ≤ 1 = ltb-false 1 (length (naming file p)) few in
    let not_none : length (naming file p) ≢ 0 = eqb-false (length (naming file p)) 0 some in
    omega arith

-- where page 0 is no master, there's no other metadata
no_others : (file : File) (weight : Metadata → ℕ) → master_in (page_at file 0) ≡ None → master_faults file ≡ []
    → sum_by (meta_weight file weight) (range_with_len 1 file.last) ≡ 0
unfolding master_pairs
no_others file weight is none =
    sum_none (meta_weight file weight) (range_with_len 1 file.last) (λ p at.
    let within = of_range 1 file.last p at in
    weighs_nothing file weight p (elim (cases_Bool (is_meta (page_at file p))) [
      | inr other ↦ other
      | inl meta ↦
          let empty : master_pairs file ≡ [] = ap (pairs_under file) is in
          let unnamed : length (naming file p) ≡ 0 =
          ap (λ pairs. length (filter (λ (pair : StoredPair). is_page (named_by file pair.data_item) p) pairs)) empty in
          let once : length (naming file p) ≡ 1 = named_once file p none (omega (arith, within.1)) within.0 meta in
          absurd (omega (arith, unnamed, once))
    ]))

-- the other metadata pages are those that the pairs of the master name
others_are_named : (image : List ℕ) (weight : Metadata → ℕ) → IsSoundForest image
    → sum_by (meta_weight (file_of image) weight) (range_with_len 1 (file_of image).last)
    ≡ sum_by (meta_weight (file_of image) weight) (flat_map (named_page (file_of image)) (master_pairs (file_of image)))
others_are_named image weight sound =
    let file : File = file_of image in
    let f : ℕ → ℕ = meta_weight file weight in
    let targets : List ℕ = flat_map (named_page file) (master_pairs file) in
    let often : ℕ → ℕ = λ q. times q targets * f q in
    let named : (p : ℕ) → Contains targets p → NamesMeta file p = λ p at. named_inside image p sound.forest sound.master at in
    let paged : sum_by f targets ≡ sum_by often (range_with_len 0 (file.last + 1)) = by_page f (file.last + 1) targets (λ p at.
    omega (arith, typed_inside image (8 ∷ 9 ∷ 10 ∷ []) p (meta_type (page_at file p) (named p at).is))) in
    let never : times 0 targets ≡ 0 =
    sum_none (λ p. cond (p == 0) 1 0) targets (λ p at. ap (λ b. cond b 1 0) (ne_eqb p 0 (λ is. omega (arith, is, (named p at).above)))) in
    let first : often 0 ≡ 0 = ap (λ n. n * f 0) never ∙ omega arith in
    let each = sum_same often f (range_with_len 1 file.last) (λ q at.
    let within = of_range 1 file.last q at in
    elim (cases_Bool (is_meta (page_at file q))) [
      | inr other ↦
          let nothing : f q ≡ 0 = weighs_nothing file weight q other in
          ap (λ n. times q targets * n) nothing ∙ omega (arith, nothing)
      | inl meta ↦
          let once : times q targets ≡ 1 = times_named file q ∙ named_once file q sound.master (omega (arith, within.1)) within.0 meta in
          ap (λ n. n * f q) once ∙ omega arith
    ]) in
    omega (arith, paged, first_of_range often file.last, first, each)

pub metadata_are_databases : MetadataAreDatabases
unfolding databases
metadata_are_databases image weight sound =
    let file : File = file_of image in
    let f : ℕ → ℕ = meta_weight file weight in
    let all : sum_by weight (fields_of file) ≡ f 0 + sum_by f (range_with_len 1 file.last) =
    fields_by_page image weight ∙ first_of_range f file.last in
    elim (master_in (page_at file 0)) as (λ master. master_in (page_at file 0) ≡ master
    → sum_by weight (fields_of file) ≡ sum_by weight
    (master_fields master ++ map (λ (database : Database). database.fields) (databases_under file master))) [
      | None ↦ λ is.
          let alone = sum_map weight (λ (database : Database). database.fields) (database_on file None (Some 0))
          ∙ database_weight file weight None (Some 0) in
          omega (arith, all, no_others file weight is sound.master, alone)
      | Some meta ↦ λ is.
          let named = databases_weight file weight (master_pairs file) in
          let here : f 0 ≡ weight (BtreeFields meta) =
          ap (λ page. sum_by weight (fields_in page)) (master_is (page_at file 0) meta is) ∙ one (weight (BtreeFields meta)) in
          omega (
            arith,
            all,
            others_are_named image weight sound,
            named,
            here,
            sum_by-cons weight (BtreeFields meta)
                (map (λ (database : Database). database.fields) (flat_map (named_database file) (master_pairs file))),
          )
    ] refl
  where
    one : (n : ℕ) → 0 + n ≡ n
    one n = omega arith

-- a sound file of trees and tables
pub sound_forest : (image : List ℕ) → length image ≤ 2 ^ 30 → faults_of image ≡ [] → (file_of image).kind ≢ QueueFile → IsSoundForest image
sound_forest image size none kind = record {
  forest = record {
    formed = record { size = size; head_is = refl; form = none_in image (1 ∷ 2 ∷ []) (no_stage image 1 none, (no_stage image 2 none, tt)) };
    linked = none_in image (3 ∷ 4 ∷ 5 ∷ []) (no_stage image 3 none, (no_stage image 4 none, (no_stage image 5 none, tt)));
  };
  structure = no_stage image 6 none;
  master = no_stage image 7 none;
  kind = kind;
}
