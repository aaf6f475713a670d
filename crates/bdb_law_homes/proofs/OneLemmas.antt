-- Of what each leaf and each hash page is.
use Rattle.std.proofs.Common.{◌≡◌, ◌⊎◌, ℕ, ◌+◌, ◌≤◌, Bool, true, false, cond, List, [], ◌∷◌, ap, ◌∙◌, arith, refl, sym, subst, inl, inr, true≢false}
use Rattle.std.specs.Prelude.{◌==◌}
use Rattle.std.specs.List.{Contains, flat_map, range_with_len, sum_by}
use Rattle.std.proofs.lemmas.Bool.{cases_lt, eq-eqb, eqb-true}
use Rattle.std.proofs.lemmas.List.Sums.{sum_by-cons}
use Rattle.bdb_law_whole.specs.of_format.declared.metadata.FileKind.TheVariants.{Queue}
use Rattle.bdb_law_whole.specs.of_format.declared.references.Sort.{Sort}
use Rattle.bdb_law_whole.specs.of_format.declared.references.Sort.TheVariants.{DuplicateRoot, Root}
use Rattle.bdb_law_whole.specs.of_format.Terms.{BtreeFields, File, HashFields, Meta, Metadata, Owner, QueueFields, all_references, bucket_pages, fields_in}
use Rattle.bdb_law_whole.specs.of_format.Terms.{fields_of}
use Rattle.bdb_law_whole.specs.of_format.Terms.{file_of, has_type, is_root_reference, is_spare, leaves, page_at, root_references, type_in}
use Rattle.bdb_law_whole.specs.of_image.Linked.{FitsDupRoot, FitsTreeRoot, IsForest}
use Rattle.bdb_law_whole.proofs.of_format.MemberLemmas.{first_member, in_range, later_member, member_cases, no_member, of_filter, of_flat_map, of_range}
use Rattle.bdb_law_whole.proofs.of_graph.ReadLemmas.{is_of_page}
use Rattle.bdb_law_whole.specs.of_law_sums.Counting.{times}
use Rattle.bdb_law_whole.specs.of_law_sums.Databases.{IsOfSet, buckets_below, leaves_below}
use Rattle.bdb_law_whole.specs.of_law_sums.HashSums.{is_hash_page}
use Rattle.bdb_law_whole.specs.of_law_sums.TreeSums.{leaf_weight}
use Rattle.bdb_law_whole.proofs.of_law_sums.CountLemmas.{sum_none}
use Rattle.bdb_law_whole.proofs.of_law_sums.DatabaseLemmas.{hash_pages_are_of_tables, leaves_are_of_databases}
use Rattle.bdb_law_whole.proofs.of_law_sums.MetaLemmas.{fields_by_page}
use Rattle.bdb_law_whole.proofs.of_law_sums.OneTreeLemmas.{each_leaf_is_in_one_tree}
use Rattle.bdb_law_whole.proofs.of_law_sums.RecordLemmas.{no_leaf_of_both}
use Rattle.bdb_law_homes.specs.Owned.{HashPagesAreOfOne, IsLeafOf, IsPageOf, LeavesAreOfOne}

-- Sums that aren't 0.

some_sum : {X : Type 0} (f : X → ℕ) (xs : List X) (x : X) → Contains xs x → 1 ≤ f x → 1 ≤ sum_by f xs
some_sum f [] x at some = absurd (no_member [] x refl at)
some_sum f (y ∷ ys) x at some = elim (member_cases y ys x at) [
  | inl same ↦ omega (arith, ap f same, sum_by-cons f y ys)
  | inr later ↦ omega (arith, some_sum f ys x later some, sum_by-cons f y ys)
]

of_sum : {X : Type 0} (f : X → ℕ) (xs : List X) → 1 ≤ sum_by f xs → (x : X) × Contains xs x × (1 ≤ f x)
of_sum f [] some = absurd (omega (arith, some))
of_sum f (y ∷ ys) some = elim (cases_lt 0 (f y)) [
  | inl here ↦ (y, first_member y ys, omega (arith, here))
  | inr none ↦
      let rest : 1 ≤ sum_by f ys = omega (arith, some, none, sum_by-cons f y ys) in
      let found = of_sum f ys rest in
      (found.0, later_member y ys found.0 found.1, found.2)
]

-- one page alone weighs something
abbrev alone : ℕ → ℕ → ℕ
alone q p = cond (p == q) 1 0

alone_itself : (q : ℕ) → alone q q ≡ 1
alone_itself q = ap (λ b. cond b 1 0) (eq-eqb q q refl)

it_alone : (q p : ℕ) → 1 ≤ alone q p → p ≡ q
it_alone q p some = by_test (p == q) refl some
  where
    by_test : (b : Bool) → (p == q) ≡ b → 1 ≤ cond b 1 0 → p ≡ q
    by_test true same some' = eqb-true p q same
    by_test false other some' = absurd (omega (arith, some'))

among_alone : (q : ℕ) (ps : List ℕ) → 1 ≤ sum_by (alone q) ps → Contains ps q
among_alone q ps some = let found = of_sum (alone q) ps some in subst (Contains ps) (it_alone q found.0 found.2) found.1

other_weighs_none : (q p : ℕ) → (p ≡ q → ⊥) → alone q p ≡ 0
other_weighs_none q p other = by_test (p == q) refl
  where
    by_test : (b : Bool) → (p == q) ≡ b → ◌≡◌ {A = ℕ} (cond b 1 0) 0
    by_test true same = absurd (other (eqb-true p q same))
    by_test false not-same = refl

-- metadata that weigh something stand on a page
record HasWeight (file : File) (g : Metadata → ℕ) : Type 0 where
  page : ℕ
  fields : Metadata
  at : page_at file page ≡ Meta fields
  weight : 1 ≤ g fields

of_fields : (image : List ℕ) (g : Metadata → ℕ) → 1 ≤ sum_by g (fields_of (file_of image)) → HasWeight (file_of image) g
of_fields image g some =
    let file : File = file_of image in
    let pages : List ℕ = range_with_len 0 (file.last + 1) in
    let by_page : 1 ≤ sum_by (λ p. sum_by g (fields_in (page_at file p))) pages = omega (arith, some, fields_by_page image g) in
    let page = of_sum (λ p. sum_by g (fields_in (page_at file p))) pages by_page in
    let found = of_sum g (fields_in (page_at file page.0)) page.2 in
    record { page = page.0; fields = found.0; at = is_of_page (page_at file page.0) found.0 found.1; weight = found.2 }

-- Leaves.

leaf_of : (file : File) (q : ℕ) (has : HasWeight file (λ fields. sum_by (alone q) (leaves_below file fields))) → IsLeafOf file q
leaf_of file q has = by_fields has.fields has.at has.weight
  where
    by_fields : (fields : Metadata) → page_at file has.page ≡ Meta fields → 1 ≤ sum_by (alone q) (leaves_below file fields) → IsLeafOf file q
    by_fields (BtreeFields tree) at some = record { meta = has.page; tree = tree; at = at; leaf = among_alone q (leaves file tree.root) some }
    by_fields (HashFields table) at some = absurd (omega (arith, some))
    by_fields (QueueFields queue) at some = absurd (omega (arith, some))

-- a leaf of a tree that metadata name
of_tree : (image : List ℕ) (q root : ℕ) → IsForest image → ((file_of image).kind ≡ Queue → ⊥) → q ≤ (file_of image).last
    → has_type (5 ∷ 6 ∷ 12 ∷ []) (type_in (page_at (file_of image) q)) ≡ true → FitsTreeRoot (file_of image) root → Contains (leaves (file_of image) root) q
    → IsLeafOf (file_of image) q
of_tree image q root forest kind low leaf fits at =
    let file : File = file_of image in
    let pages : List ℕ = range_with_len 0 (file.last + 1) in
    let sets : (set : ℕ) → FitsDupRoot file set → sum_by (alone q) (leaves file set) ≡ 0 =
    λ set fits-set.
    sum_none (alone q) (leaves file set)
    (λ p among. other_weighs_none q p (λ same. no_leaf_of_both image root set q forest fits fits-set at (subst (Contains (leaves file set)) same among))) in
    let here : leaf_weight file (alone q) q ≡ 1 = ap (λ b. cond b (alone q q) 0) leaf ∙ alone_itself q in
    let all : 1 ≤ sum_by (leaf_weight file (alone q)) pages =
    some_sum (leaf_weight file (alone q)) pages q (in_range 0 (file.last + 1) q (omega arith) (omega (arith, low))) (omega (arith, here)) in
    let below : 1 ≤ sum_by (λ fields. sum_by (alone q) (leaves_below file fields)) (fields_of file) =
    omega (arith, all, leaves_are_of_databases image (alone q) forest kind sets) in
    leaf_of file q (of_fields image (λ fields. sum_by (alone q) (leaves_below file fields)) below)

pub leaves_are_of_one : LeavesAreOfOne
unfolding root_references
leaves_are_of_one image q forest kind low leaf =
    let file : File = file_of image in
    let f : Owner → ℕ = λ (owner : Owner). times q (leaves file owner.reference.target) in
    let one : sum_by f (root_references file) ≡ 1 = each_leaf_is_in_one_tree image q forest low leaf in
    let found = of_sum f (root_references file) (omega (arith, one)) in
    let root = of_filter (λ (owner : Owner). is_root_reference owner.reference.sort) (all_references file) found.0 found.1 in
    by_sort found.0 root.0 (among_alone q (leaves file found.0.reference.target) found.2) found.0.reference.sort refl root.1
  where
    by_sort : (owner : Owner) → Contains (all_references (file_of image)) owner → Contains (leaves (file_of image) owner.reference.target) q
        → (sort : Sort) → owner.reference.sort ≡ sort → is_root_reference sort ≡ true → IsLeafOf (file_of image) q ⊎ IsOfSet (file_of image) q
    by_sort owner held at Root is root =
        inl (of_tree image q owner.reference.target forest kind low leaf (record { owner = owner; held = held; sort_is = is; target_is = refl }) at)
    by_sort owner held at DuplicateRoot is root =
        inr (record { root = owner.reference.target; set = record { owner = owner; held = held; sort_is = is; target_is = refl }; leaf = at })
    by_sort owner held at sort is root = absurd cc

-- Hash pages.

page_of : (file : File) (q : ℕ) (has : HasWeight file (λ fields. sum_by (alone q) (buckets_below file fields))) → IsPageOf file q
page_of file q has = by_fields has.fields has.at has.weight
  where
    by_fields : (fields : Metadata) → page_at file has.page ≡ Meta fields → 1 ≤ sum_by (alone q) (buckets_below file fields) → IsPageOf file q
    by_fields (BtreeFields tree) at some = absurd (omega (arith, some))
    by_fields (HashFields table) at some =
        let among : Contains (flat_map (bucket_pages file table) (range_with_len 0 (table.max_bucket + 1))) q =
        among_alone q (flat_map (bucket_pages file table) (range_with_len 0 (table.max_bucket + 1))) some in
        let found = of_flat_map (bucket_pages file table) (range_with_len 0 (table.max_bucket + 1)) q among in
        let within = of_range 0 (table.max_bucket + 1) found.0 found.1 in
        record { meta = has.page; table = table; bucket = found.0; at = at; within = omega (arith, within.1); page = found.2 }
    by_fields (QueueFields queue) at some = absurd (omega (arith, some))

pub hash_pages_are_of_one : HashPagesAreOfOne
hash_pages_are_of_one image q forest kind low hash full =
    let file : File = file_of image in
    let pages : List ℕ = range_with_len 0 (file.last + 1) in
    let h : ℕ → ℕ = λ p. cond (is_hash_page file p) (alone q p) 0 in
    let spare : (p : ℕ) → p ≤ file.last → is_spare (page_at file p) ≡ true → alone q p ≡ 0 =
    λ p there is. other_weighs_none q p (λ same. true≢false (sym is ∙ (ap (λ n. is_spare (page_at file n)) same ∙ full))) in
    let here : h q ≡ 1 = ap (λ b. cond b (alone q q) 0) hash ∙ alone_itself q in
    let all : 1 ≤ sum_by h pages = some_sum h pages q (in_range 0 (file.last + 1) q (omega arith) (omega (arith, low))) (omega (arith, here)) in
    let below : 1 ≤ sum_by (λ fields. sum_by (alone q) (buckets_below file fields)) (fields_of file) =
    omega (arith, all, hash_pages_are_of_tables image (alone q) forest kind spare) in
    page_of file q (of_fields image (λ fields. sum_by (alone q) (buckets_below file fields)) below)
