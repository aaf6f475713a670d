-- What the pages of a linked image are, and which pages its metadata names.
use Rattle.std.proofs.Common.{◌≡◌, ◌⊎◌, ℕ, zero, suc, ◌+◌, ◌<◌, ◌≤◌, Bool, true, false, not, cond, List, [], ◌∷◌, length, map, arith, refl, sym, ◌∙◌, ap, subst}
use Rattle.std.proofs.Common.{inl, inr, Option, Some, None, ◌==◌, get_or, nat_lt}
use Rattle.std.specs.List.{Contains, enumerate_from, range_with_len}
use Rattle.std.proofs.lemmas.Bool.{eqb-true, ltb-false, or_parts, true≢false}
use Rattle.std.proofs.lemmas.List.Elements.{Contains-append_right, Contains-get_or}
use Rattle.std.proofs.lemmas.List.FromFn.{length-range_with_len}
use Rattle.std.proofs.lemmas.List.Sums.{count_by-le-length, length-filter}
use Rattle.bdb_image.specs.of_format.declared.kinds.Order.{Order}
use Rattle.bdb_image.specs.of_format.declared.metadata.BtreeMeta.{BtreeMeta}
use Rattle.bdb_image.specs.of_format.declared.metadata.HashMeta.{HashMeta}
use Rattle.bdb_image.specs.of_format.declared.metadata.FileKind.{FileKind}
use Rattle.bdb_image.specs.of_format.declared.metadata.FileKind.TheVariants.{Btree, Hash, Queue}
use Rattle.bdb_image.specs.of_format.declared.metadata.Head.{Head}
use Rattle.bdb_image.specs.of_format.declared.references.Reference.{Reference}
use Rattle.bdb_image.specs.of_format.declared.references.Sort.{Sort}
use Rattle.bdb_image.specs.of_format.declared.references.Sort.TheVariants.{Root, Bucket}
use Rattle.bdb_image.specs.of_format.Terms.{BtreeFields, File, HashFields, Meta, Owner, Page, Zero, abstract_page, asked_by, body_code, byte_at, faults_in}
use Rattle.bdb_image.specs.of_format.Terms.{file_of, first_free, first_page, fit_code, fit_rows, form_code, head_of, is_meta, is_page_size, is_tree_type}
use Rattle.bdb_image.specs.of_format.Terms.{is_zero, may_have_type, page_as, page_at, page_bytes, page_code, page_type, queue_code, refs, targets_in}
use Rattle.bdb_image.specs.of_format.Terms.{targets_of, type_of}
use Rattle.bdb_image.proofs.of_format.GraphLemmas.{each_fits, type_fits}
use Rattle.bdb_image.proofs.of_format.MemberLemmas.{first_member, in_map, in_range, of_filter, of_range}
use Rattle.bdb_image.proofs.of_format.PageLemmas.{later_type}
use Rattle.bdb_image.proofs.of_format.VerdictLemmas.{AllFail, none_is_first_row}
use Rattle.bdb_image.specs.Formed.{IsFormed}
use Rattle.bdb_image.specs.Linked.{HasMetadata, IsTarget, meta_pages}
use Rattle.bdb_image.specs.of_form.Formed.{fields_as}
use Rattle.bdb_image.proofs.CodeLemmas.{code_by, form_queue, is_same, not_zero, tree_refused, two_none}
use Rattle.bdb_image.proofs.FirstLemmas.{formed_page}
use Rattle.bdb_graph.proofs.ForestLemmas.{sound_graph}
use Rattle.bdb_image.proofs.HeldLemmas.{identity_none}
use Rattle.bdb_image.proofs.MetaLemmas.{is_by_fields}
use Rattle.bdb_image.specs.Metas.{meta_in}
use Rattle.bdb_image.proofs.of_format.ListLemmas.{in_enumerated}
use Rattle.bdb_image.proofs.of_format.ReferenceLemmas.{forest_names, held_in_all, of_all}
use Rattle.bdb_image.proofs.of_format.FileLemmas.{kind_is, last_page, page_is}

-- Form.

first_none : (a b : Bool) → cond {A = Option ℕ} a (Some 1) (cond b (Some 2) None) ≡ None → a ≡ false
first_none true b none = absurd cc
first_none false b none = refl

passes : (zeros a b : Bool) (body : Option ℕ) → a ≡ false → b ≡ false → body ≡ None → code_by zeros (cond a (Some 1) (cond b (Some 2) None)) body ≡ None
passes true a b body number type none = refl
passes false a b body number type none = rw (number, type) none

record IsTreeMeta (order : Order) (page : List ℕ) (byte : ℕ) : Type 0 where
  type : not (is_tree_type byte) ≡ false
  body : body_code order page (page_type byte) ≡ None

tree_meta : (kind : FileKind) (order : Order) (page : List ℕ) (byte : ℕ) → byte ≡ type_of kind → (kind ≡ Queue → ⊥) → IsTreeMeta order page byte
tree_meta Btree order page byte is forest = record { type = ap (λ b. not (is_tree_type b)) is; body = ap (λ b. body_code order page (page_type b)) is }
tree_meta Hash order page byte is forest = record { type = ap (λ b. not (is_tree_type b)) is; body = ap (λ b. body_code order page (page_type b)) is }
tree_meta Queue order page byte is forest = absurd (forest refl)

zero_code : (head : Head) (page : List ℕ) → (head.kind ≡ Queue → ⊥) → form_code head 0 page ≡ None → page_code head.order 0 page ≡ None
unfolding page_code form_code
zero_code head page forest none = grind (arith, identity_none, tree_meta, is_same, two_none, passes, first_none)

-- a page of a btree or hash file has the form that its view asks for
pub forest_code : (head : Head) (number : ℕ) (page : List ℕ) → (head.kind ≡ Queue → ⊥) → form_code head number page ≡ None → page_code head.order number page
    ≡ None
forest_code head zero page forest none = zero_code head page forest none
forest_code head (suc n) page forest none = grind (arith, tree_refused)

-- and so has one above 0 of a queue file
pub records_code : (head : Head) (number : ℕ) (page : List ℕ) → 0 < number → head.kind ≡ Queue → form_code head number page ≡ None
    → queue_code head.order number page ≡ None
records_code head number page above queue none = sym (form_queue head number page above queue) ∙ none

-- page 0 of a queue file is its metadata
same_meta : (order : Order) (page : List ℕ) (zeros : Bool) (byte : ℕ) → zeros ≡ false → byte ≡ 10
    → ◌≡◌ {A = Page} (Meta (fields_as order page (page_type byte))) (elim zeros [ true ↦ Zero | false ↦ page_as order page (page_type byte) ])
same_meta order page true byte some ten = absurd cc
same_meta order page false byte some ten =
    let P : ℕ → Type 0 = λ b. Meta (fields_as order page (page_type b)) ≡ page_as order page (page_type b) in subst P (sym ten) refl

queue_type : (head : Head) (page : List ℕ) → head.kind ≡ Queue → form_code head 0 page ≡ None → byte_at page 25 ≡ type_of head.kind
unfolding form_code
queue_type head page queue none =
    is_same (byte_at page 25) (type_of head.kind) (two_none _ _ (identity_none _ _ none))

pub queue_meta_page : (head : Head) (page : List ℕ) → is_page_size (length page) ≡ true → head.kind ≡ Queue → form_code head 0 page ≡ None
    → Meta (fields_as head.order page (page_type (byte_at page 25))) ≡ abstract_page head.order page
unfolding abstract_page
queue_meta_page head page size queue none =
    let is : byte_at page 25 ≡ type_of head.kind = queue_type head page queue none in
    same_meta head.order page (is_zero page) (byte_at page 25) (not_zero page head.kind size is) (is ∙ ap type_of queue)

-- Metadata of a forest.

abbrev is_forest_meta : Page → Bool
is_forest_meta (Meta (BtreeFields meta)) = true
is_forest_meta (Meta (HashFields meta)) = true
is_forest_meta page = false

queue_byte : (number byte : ℕ) → may_have_type Queue number byte ≡ true → (byte ≡ 10) ⊎ (byte ≡ 11)
queue_byte zero byte may = inl (eqb-true byte 10 may)
queue_byte (suc number) byte may = inr (eqb-true byte 11 (sym (later_type Queue number byte) ∙ may))

no_forest_of : (order : Order) (page : List ℕ) (byte : ℕ) → (byte ≡ 10) ⊎ (byte ≡ 11) → is_forest_meta (page_as order page (page_type byte)) ≡ false
no_forest_of order page byte types = grind arith

no_forest_page : (head : Head) (number : ℕ) (page : List ℕ) → head.kind ≡ Queue → form_code head number page ≡ None
    → is_forest_meta (abstract_page head.order page) ≡ false
unfolding abstract_page
no_forest_page head number page queue none =
    let byte : ℕ = byte_at page 25 in
    elim (is_zero page) as (λ zeros. is_zero page ≡ zeros → is_forest_meta (elim zeros [ true ↦ Zero | false ↦ page_as head.order page (page_type byte) ])
    ≡ false) [
      | true ↦ λ _. refl
      | false ↦ λ some.
          no_forest_of head.order page byte
          (queue_byte number byte (ap (λ kind. may_have_type kind number byte) (sym queue) ∙ type_fits head number page some none))
    ] refl

-- metadata of a btree or a hash table stands in no queue file
no_queue : (image : List ℕ) (head : Head) (p : ℕ) → IsFormed image head → p ≤ (file_of image).last → is_forest_meta (page_at (file_of image) p) ≡ true
    → (file_of image).kind ≡ Queue → ⊥
no_queue image head p formed low is queue =
    let inside : p ≤ (head_of image).last = omega (arith, low, last_page image) in
    let none : form_code (head_of image) p (page_bytes (head_of image) image p) ≡ None = formed_page image p formed.form inside in
    true≢false (sym is ∙ (ap is_forest_meta (page_is image p inside) ∙ no_forest_page (head_of image) p (page_bytes (head_of image) image p)
    (sym (kind_is image) ∙ queue) none))

-- What a page names is the target of a reference.

pub named_target : (file : File) (p : ℕ) (sort : Sort) (target : ℕ) → p ≤ file.last → Contains (targets_of file.kind p (page_at file p)) (sort, target)
    → IsTarget file sort target
unfolding refs
named_target file p sort target low at =
    let found : (i : ℕ) × Contains (enumerate_from 0 (targets_of file.kind p (page_at file p))) (i, (sort, target)) =
    in_enumerated 0 (targets_of file.kind p (page_at file p)) (sort, target) at in
    let reference : Reference = record { place = found.0; sort = sort; target = target } in
    let held : Contains (refs file p) reference =
    in_map (λ (named : ℕ × (Sort × ℕ)). record { place = named.0; sort = named.1.0; target = named.1.1 })
    (enumerate_from 0 (targets_of file.kind p (page_at file p))) (found.0, (sort, target)) found.1 in
    record { owner = record { holder = p; reference = reference }; held = held_in_all file p reference low held; sort_is = refl; target_is = refl }

target_of : (image : List ℕ) (head : Head) (p : ℕ) (page : Page) (sort : Sort) (target : ℕ) → IsFormed image head → p ≤ (file_of image).last
    → page_at (file_of image) p ≡ page
    → is_forest_meta page ≡ true → Contains (targets_in p page) (sort, target) → IsTarget (file_of image) sort target
target_of image head p page sort target formed low is forest at =
    let names : targets_of (file_of image).kind p (page_at (file_of image) p) ≡ targets_in p page =
    forest_names (file_of image).kind p (page_at (file_of image) p) (no_queue image head p formed low (ap is_forest_meta is ∙ forest)) ∙ ap (targets_in p) is in
    named_target (file_of image) p sort target low (subst (λ ns. Contains ns (sort, target)) (sym names) at)

pub root_fits : (image : List ℕ) (head : Head) (meta : BtreeMeta) → IsFormed image head → HasMetadata (file_of image) (BtreeFields meta)
    → IsTarget (file_of image) Root meta.root
root_fits image head meta formed has =
    target_of image head has.page (Meta (BtreeFields meta)) Root meta.root formed has.inside has.is refl
    (Contains-append_right (first_free has.page meta.free) ((Root, meta.root) ∷ []) (Root, meta.root) (first_member (Root, meta.root) []))

pub bucket_fits : (image : List ℕ) (head : Head) (meta : HashMeta) (b : ℕ) → IsFormed image head → HasMetadata (file_of image) (HashFields meta)
    → b ≤ meta.max_bucket
    → IsTarget (file_of image) Bucket (first_page b meta.spares)
bucket_fits image head meta b formed has few =
    target_of image head has.page (Meta (HashFields meta)) Bucket (first_page b meta.spares) formed has.inside has.is refl
    (Contains-append_right (first_free has.page meta.free) (map (λ n. (Bucket, first_page n meta.spares)) (range_with_len 0 (meta.max_bucket + 1)))
    (Bucket, first_page b meta.spares)
    (in_map (λ n. (Bucket, first_page n meta.spares)) (range_with_len 0 (meta.max_bucket + 1)) b
    (in_range 0 (meta.max_bucket + 1) b (omega arith) (omega arith))))

-- Targets are there.

pub target_inside : (image : List ℕ) (sort : Sort) (p : ℕ) → faults_in (3 ∷ 4 ∷ 5 ∷ []) image ≡ [] → IsTarget (file_of image) sort p → p ≤ (file_of image).last
unfolding fit_code
target_inside image sort p none is =
    let file : File = file_of image in
    let owner : Owner = is.owner in
    let held = of_all file owner is.held in
    let rows = fit_rows file (asked_by owner.holder (page_at file owner.holder) owner.reference.sort) owner.reference.target in
    let fail : AllFail rows = none_is_first_row rows (each_fits file owner.holder owner.reference (sound_graph image none).references held.0 held.1) in
    let low : owner.reference.target ≤ file.last = ltb-false file.last owner.reference.target
    (or_parts (owner.reference.target == 0) (nat_lt file.last owner.reference.target) fail.0).1 in
    omega (arith, is.target_is, low)

same_last : (image : List ℕ) (head : Head) → IsFormed image head → (file_of image).last ≡ head.last
same_last image head formed = last_page image ∙ ap (λ (h : Head). h.last) (sym formed.head_is)

pub root_inside : (image : List ℕ) (head : Head) (meta : BtreeMeta) → IsFormed image head → faults_in (3 ∷ 4 ∷ 5 ∷ []) image ≡ []
    → HasMetadata (file_of image) (BtreeFields meta) → meta.root ≤ head.last
root_inside image head meta formed none has = omega (
  arith,
  target_inside image Root meta.root none (root_fits image head meta formed has),
  same_last image head
      formed,
)

pub bucket_inside : (image : List ℕ) (head : Head) (meta : HashMeta) (b : ℕ) → IsFormed image head → faults_in (3 ∷ 4 ∷ 5 ∷ []) image ≡ []
    → HasMetadata (file_of image) (HashFields meta) → b ≤ meta.max_bucket
    → first_page b meta.spares ≤ head.last
bucket_inside image head meta b formed none has few =
    omega (arith, target_inside image Bucket (first_page b meta.spares) none (bucket_fits image head meta b formed has few), same_last image head formed)

first_of_bucket : (b : ℕ) (spares : List ℕ) → b ≤ first_page b spares
first_of_bucket b spares = omega arith

pub bucket_few : (image : List ℕ) (head : Head) (meta : HashMeta) (b : ℕ) → IsFormed image head → faults_in (3 ∷ 4 ∷ 5 ∷ []) image ≡ []
    → HasMetadata (file_of image) (HashFields meta) → b ≤ meta.max_bucket → b ≤ head.last
bucket_few image head meta b formed none has few = omega (arith, first_of_bucket b meta.spares, bucket_inside image head meta b formed none has few)

-- The metadata pages.

-- they are listed, each once
pub few_metas : (image : List ℕ) → length (meta_pages (file_of image)) ≤ (head_of image).last + 1
unfolding meta_pages
few_metas image = grind (arith, length-filter, count_by-le-length, length-range_with_len, last_page)

-- a number that is listed is that of a metadata page
listed : (file : File) (i number : ℕ) → i < length (meta_pages file) → number ≡ get_or (meta_pages file) i number
    → (number ≤ file.last) × (is_meta (page_at file number) ≡ true)
unfolding meta_pages
listed file i number below is =
    let test : ℕ → Bool = λ p. is_meta (page_at file p) in
    let passed = of_filter test (range_with_len 0 (file.last + 1)) number
    (subst (Contains (meta_pages file)) (sym is) (Contains-get_or (meta_pages file) i number below)) in
    let within = of_range 0 (file.last + 1) number passed.0 in
    (omega (arith, within.1), passed.1)

pub meta_inside : (file : File) (i number : ℕ) → i < length (meta_pages file) → number ≡ get_or (meta_pages file) i number → number ≤ file.last
meta_inside file i number below is = (listed file i number below is).0

pub meta_there : (file : File) (i number : ℕ) → i < length (meta_pages file) → number ≡ get_or (meta_pages file) i number → None ≡ meta_in (page_at file number)
    → ⊥
meta_there file i number below is none = true≢false (sym (listed file i number below is).1 ∙ is_by_fields (page_at file number) none)
