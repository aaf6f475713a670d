-- What leaves and hash pages weigh, those below metadata do.
use Rattle.std.proofs.Common.{◌≡◌, ℕ, ◌+◌, ◌≤◌, Bool, true, false, cond, List, [], ◌∷◌, length, arith, refl, sym, ◌∙◌, ap, inl, inr, true≢false}
use Rattle.std.specs.List.{range_with_len, sum_by}
use Rattle.std.proofs.lemmas.Bool.{cases_Bool, cases_lt}
use Rattle.std.proofs.lemmas.List.{get_or_past}
use Rattle.bdb_tree.specs.of_format.declared.references.Sort.{Sort}
use Rattle.bdb_tree.specs.of_format.declared.references.Sort.TheVariants.{Root, Bucket, DuplicateRoot}
use Rattle.bdb_tree.specs.of_format.Terms.{BtreeFields, File, HashFields, Metadata, NoType, Owner, Page, QueueFields, Zero, all_references, bucket_pages}
use Rattle.bdb_tree.specs.of_format.Terms.{chain, fields_in, fields_of, file_of, is_root_reference, is_spare, is_zero_page, leaves, page_at, root_references}
use Rattle.bdb_tree.proofs.of_format.MemberLemmas.{of_range}
use Rattle.bdb_tree.proofs.of_format.FileLemmas.{pages_counted}
use Rattle.bdb_tree.specs.of_image.Linked.{HasMetadata}
use Rattle.bdb_tree.proofs.of_graph.ReadLemmas.{is_of_page}
use Rattle.bdb_tree.proofs.TreeLemmas.{typed_inside}
use Rattle.bdb_law_sums.specs.Databases.{HashPagesAreOfTables, LeavesAreOfDatabases, buckets_below, leaves_below}
use Rattle.bdb_law_sums.specs.HashSums.{WeighsHash, is_bucket, is_hash_page}
use Rattle.bdb_law_sums.proofs.CountLemmas.{sum_none, sum_parts, sum_same}
use Rattle.bdb_law_sums.proofs.FieldLemmas.{OfMetadata, fields_weight, metadata_weight}
use Rattle.bdb_law_sums.proofs.HashLemmas.{bucket_page_is, hash_pages_are_of_buckets}
use Rattle.bdb_law_sums.proofs.MetaLemmas.{fields_by_page}
use Rattle.bdb_law_sums.proofs.TreeLemmas.{leaves_are_of_trees, sum_filter}

-- Metadata.

-- weights that are the same for the metadata of a file
pub fields_same : (image : List ℕ) (f g : Metadata → ℕ) → ((fields : Metadata) → HasMetadata (file_of image) fields → f fields ≡ g fields)
    → sum_by f (fields_of (file_of image)) ≡ sum_by g (fields_of (file_of image))
fields_same image f g same =
    let file : File = file_of image in
    fields_by_page image f
    ∙ (sum_same (λ p. sum_by f (fields_in (page_at file p))) (λ p. sum_by g (fields_in (page_at file p))) (range_with_len 0 (file.last + 1)) (λ p at.
    sum_same f g (fields_in (page_at file p)) (λ fields here.
    same fields (record { page = p; inside = omega (arith, of_range 0 (file.last + 1) p at); is = is_of_page (page_at file p) fields here })))
    ∙ sym (fields_by_page image g))

-- Leaves.

-- a reference by metadata weighs what it leads to
abbrev as_database : (ℕ → ℕ) → Sort → ℕ → ℕ
as_database f Root target = f target
as_database f sort target = 0

by_sort : (f : ℕ → ℕ) (sort : Sort) (target : ℕ) → (sort ≡ DuplicateRoot → f target ≡ 0) → cond (is_root_reference sort) (f target) 0
    ≡ as_database f sort target
by_sort f Root target set = refl
by_sort f DuplicateRoot target set = set refl
by_sort f sort target set = refl

root_weight : (file : File) (weight : ℕ → ℕ) (fields : Metadata)
    → fields_weight (as_database (λ root. sum_by weight (leaves file root))) fields ≡ sum_by weight (leaves_below file fields)
root_weight file weight (BtreeFields meta) = refl
root_weight file weight (HashFields meta) = sum_none (λ (b : ℕ). 0) (range_with_len 0 (meta.max_bucket + 1)) (λ b at. refl)
root_weight file weight (QueueFields meta) = refl

pub leaves_are_of_databases : LeavesAreOfDatabases
unfolding root_references
leaves_are_of_databases image weight forest kind sets =
    let file : File = file_of image in
    let f : ℕ → ℕ = λ root. sum_by weight (leaves file root) in
    let below : Owner → ℕ = λ (owner : Owner). f owner.reference.target in
    let is_root : Owner → Bool = λ (owner : Owner). is_root_reference owner.reference.sort in
    let of : OfMetadata (as_database f) = record {
      structure = record { free = λ t. refl; head = λ t. refl; chained = λ t. refl; set = λ t. refl };
      child = λ t. refl;
      next = λ t. refl;
    } in
    leaves_are_of_trees image weight forest
    ∙ (sum_filter below is_root (all_references file)
    ∙ (sum_same (λ owner. cond (is_root owner) (below owner) 0) (λ (owner : Owner). as_database f owner.reference.sort owner.reference.target)
    (all_references file) (λ owner at.
    by_sort f owner.reference.sort owner.reference.target
    (λ is. sets owner.reference.target (record { owner = owner; held = at; sort_is = is; target_is = refl })))
    ∙ (metadata_weight image (as_database f) kind of
    ∙ sum_same (fields_weight (as_database f)) (λ fields. sum_by weight (leaves_below file fields)) (fields_of file)
    (λ fields at. root_weight file weight fields))))

-- Hash pages.

abbrev as_bucket : (ℕ → ℕ) → Sort → ℕ → ℕ
as_bucket f Bucket target = f target
as_bucket f sort target = 0

by_bucket : (f : ℕ → ℕ) (sort : Sort) (target : ℕ) → cond (is_bucket sort) (f target) 0 ≡ as_bucket f sort target
by_bucket f Bucket target = refl
by_bucket f sort target = refl

bucket_weight : (file : File) (weight : ℕ → ℕ) (fields : Metadata)
    → fields_weight (as_bucket (λ p. sum_by weight (chain file p))) fields ≡ sum_by weight (buckets_below file fields)
bucket_weight file weight (BtreeFields meta) = refl
bucket_weight file weight (HashFields meta) = sym (sum_parts weight (bucket_pages file meta) (range_with_len 0 (meta.max_bucket + 1)))
bucket_weight file weight (QueueFields meta) = refl

zero_spare : (page : Page) → is_zero_page page ≡ true → is_spare page ≡ true
zero_spare Zero is = refl
zero_spare page is = absurd cc

-- a zero page is there
zero_inside : (image : List ℕ) (p : ℕ) → is_zero_page (page_at (file_of image) p) ≡ true → p ≤ (file_of image).last
zero_inside image p is =
    let pages : List Page = (file_of image).pages in
    elim (cases_lt p (length pages)) [
      | inl below ↦ omega (arith, pages_counted image)
      | inr past ↦ absurd (true≢false (sym is ∙ ap is_zero_page (get_or_past pages p NoType past)))
    ]

nothing : (b : Bool) (n : ℕ) → n ≡ 0 → cond b n 0 ≡ 0
nothing true n none = none
nothing false n none = refl

pub hash_pages_are_of_tables : HashPagesAreOfTables
hash_pages_are_of_tables image weight forest kind spare =
    let file : File = file_of image in
    let h : ℕ → ℕ = λ p. cond (is_hash_page file p) (weight p) 0 in
    let f : ℕ → ℕ = λ p. sum_by weight (chain file p) in
    let test : Owner → Bool = λ (owner : Owner). is_bucket owner.reference.sort in
    let all : List Owner = all_references file in
    let weighs : WeighsHash file h = record {
      other = λ p other. ap (λ b. cond b (weight p) 0) other;
      spare = λ p is. elim (cases_Bool (is_hash_page file p)) [
        | inr other ↦ ap (λ b. cond b (weight p) 0) other
        | inl hash ↦ nothing (is_hash_page file p) (weight p) (spare p (typed_inside image (2 ∷ 13 ∷ []) p hash) is)
      ];
    } in
    let of : OfMetadata (as_bucket f) = record {
      structure = record { free = λ t. refl; head = λ t. refl; chained = λ t. refl; set = λ t. refl };
      child = λ t. refl;
      next = λ t. refl;
    } in
    hash_pages_are_of_buckets image h forest weighs
    ∙ (sum_filter (λ (owner : Owner). sum_by h (chain file owner.reference.target)) test all
    ∙ (sum_same (λ (owner : Owner). cond (test owner) (sum_by h (chain file owner.reference.target)) 0)
    (λ (owner : Owner). as_bucket f owner.reference.sort owner.reference.target) all
    (λ owner at.
    let p : ℕ = owner.reference.target in
    elim (cases_Bool (test owner)) [
      | inr other ↦
          ap (λ b. cond b (sum_by h (chain file p)) 0) other ∙ sym (sym (by_bucket f owner.reference.sort p) ∙ ap (λ b. cond b (f p) 0) other)
      | inl is ↦
          let same : sum_by h (chain file p) ≡ f p = sum_same h weight (chain file p) (λ q here.
          elim (bucket_page_is image owner q forest at is here) [
            | inl hash ↦ ap (λ b. cond b (weight q) 0) hash
            | inr zeros ↦
                let none : weight q ≡ 0 = spare q (zero_inside image q zeros) (zero_spare (page_at file q) zeros) in
                nothing (is_hash_page file q) (weight q) none ∙ sym none
          ]) in
          ap (λ b. cond b (sum_by h (chain file p)) 0) is ∙ (same ∙ sym (sym (by_bucket f owner.reference.sort p) ∙ ap (λ b. cond b (f p) 0) is))
    ])
    ∙ (metadata_weight image (as_bucket f) kind of
    ∙ sum_same (fields_weight (as_bucket f)) (λ fields. sum_by weight (buckets_below file fields)) (fields_of file)
    (λ fields at. bucket_weight file weight fields))))
