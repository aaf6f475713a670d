-- What a page without a fault of form is, where it's metadata.
use Rattle.std.proofs.Common.{arith, ◌≡◌, ℕ, zero, suc, ◌+◌, ◌≤◌, true, false, cond, inl, inr, List, [], ◌∷◌, ◌++◌, length, refl, sym, ◌∙◌, ap, subst}
use Rattle.std.proofs.Common.{append-nil, Some, None}
use Rattle.std.proofs.lemmas.Bool.{true≢false, cases_Bool, cases_eq}
use Rattle.bdb_faults.specs.of_format.declared.kinds.Order.{Order}
use Rattle.bdb_faults.specs.of_format.declared.metadata.FileKind.{FileKind}
use Rattle.bdb_faults.specs.of_format.declared.metadata.FileKind.TheVariants.{Btree, Hash, Queue}
use Rattle.bdb_faults.specs.of_format.declared.metadata.Head.{Head}
use Rattle.bdb_faults.specs.of_format.Terms.{BtreeFields, File, HashFields, Meta, Metadata, Page, QueueFields, Zero, abstract_page, btree_fields, byte_at}
use Rattle.bdb_faults.specs.of_format.Terms.{file_of, first_row, form_code, hash_fields, head_of, is_meta, is_page_size, is_zero, may_have_type, metadata_rows}
use Rattle.bdb_faults.specs.of_format.Terms.{page_as, page_at, page_bytes, page_type, queue_fields}
use Rattle.bdb_faults.specs.of_format.declared.pages.PageType.TheVariants.{HashMeta as HashMetaPage, BtreeMeta as BtreeMetaPage, QueueMeta as QueueMetaPage}
use Rattle.bdb_faults.proofs.of_format.GraphLemmas.{type_fits, typed_page, zero_page}
use Rattle.bdb_faults.proofs.of_format.TypeLemmas.{byte_as}
use Rattle.bdb_faults.proofs.of_format.PageLemmas.{later_type}
use Rattle.std.proofs.lemmas.List.Elements.{filter-append}
use Rattle.bdb_image.specs.Linked.{meta_pages, metas_below}
use Rattle.bdb_image.specs.Metas.{meta_in}
use Rattle.bdb_image.specs.Told.{is_metadata}
use Rattle.bdb_faults.specs.of_format.declared.metadata.HashMeta.{HashMeta}
use Rattle.bdb_image.proofs.CodeLemmas.{not_zero, queue_last}
use Rattle.bdb_image.proofs.HeldLemmas.{few_buckets, metadata_formed, table_formed, table_page, tree_page, other_page, other_formed}
use Rattle.bdb_faults.proofs.of_format.ListLemmas.{range_zero_more}
use Rattle.bdb_faults.proofs.of_format.FileLemmas.{page_is}

-- Queue metadata.

pub queue_page : (order : Order) (page : List ℕ) → is_page_size (length page) ≡ true → byte_at page 25 ≡ 10
    → abstract_page order page ≡ Meta (QueueFields (queue_fields order page))
unfolding abstract_page
queue_page order page size is = rw (not_zero page Queue size is, abstract_page) (ap (λ byte. page_as order page (page_type byte)) is)

-- metadata of a queue is page 0
pub zero_number : (kind : FileKind) (number byte : ℕ) → byte ≡ 10 → may_have_type kind number byte ≡ true → number ≡ 0
zero_number kind zero byte is may = refl
zero_number Btree (suc n) byte is may = absurd (true≢false (sym (subst (λ b. may_have_type Btree (suc n) b ≡ true) is may) ∙ later_type Btree n 10))
zero_number Hash (suc n) byte is may = absurd (true≢false (sym (subst (λ b. may_have_type Hash (suc n) b ≡ true) is may) ∙ later_type Hash n 10))
zero_number Queue (suc n) byte is may = absurd (true≢false (sym (subst (λ b. may_have_type Queue (suc n) b ≡ true) is may) ∙ later_type Queue n 10))

-- queue metadata is page 0
pub queue_formed : (head : Head) (number : ℕ) (page : List ℕ) → is_page_size (length page) ≡ true → byte_at page 25 ≡ 10 → form_code head number page ≡ None
    → first_row (metadata_rows head.order page 0 0 Queue) ≡ None
queue_formed head number page size is none =
    let first : number ≡ 0 = zero_number head.kind number (byte_at page 25) is (type_fits head number page (not_zero page Queue size is) none) in
    ap first_row (sym (queue_last head.order page 0 head.last))
    ∙ (ap (λ n. first_row (metadata_rows head.order page n head.last Queue)) (sym first) ∙ metadata_formed head number page Queue size is none)

-- Other pages.

no_fields : (page : Page) → is_meta page ≡ false → meta_in page ≡ None
no_fields (Meta fields) other = absurd cc
no_fields page other = refl

pub other_fields : (order : Order) (page : List ℕ) → (page_type (byte_at page 25) ≡ HashMetaPage → ⊥) → (page_type (byte_at page 25) ≡ BtreeMetaPage → ⊥)
    → (page_type (byte_at page 25) ≡ QueueMetaPage → ⊥) → meta_in (abstract_page order page) ≡ None
other_fields order page hash btree queue =
    elim (cases_Bool (is_zero page)) [
      | inl empty ↦ no_fields (abstract_page order page) (ap is_meta (zero_page order page empty))
      | inr some ↦
          no_fields (abstract_page order page)
          (ap is_meta (typed_page order page some) ∙ other_page order page (page_type (byte_at page 25)) hash btree queue)
    ]

-- a page whose type is none of metadata
pub unmarked_fields : (order : Order) (page : List ℕ) → is_metadata (Some (page_type (byte_at page 25))) ≡ false → meta_in (abstract_page order page) ≡ None
unmarked_fields order page none =
    other_fields order page (λ is. true≢false (sym (ap (λ t. is_metadata (Some t)) is) ∙ none)) (λ is. true≢false (sym (ap (λ t. is_metadata (Some t)) is) ∙ none))
    (λ is. true≢false (sym (ap (λ t. is_metadata (Some t)) is) ∙ none))

pub no_meta : (order : Order) (page : List ℕ) → (byte_at page 25 ≡ 8 → ⊥) → (byte_at page 25 ≡ 9 → ⊥) → (byte_at page 25 ≡ 10 → ⊥)
    → meta_in (abstract_page order page) ≡ None
no_meta order page table tree queue =
    other_fields order page (λ is. table (byte_as (byte_at page 25) HashMetaPage is)) (λ is. tree (byte_as (byte_at page 25) BtreeMetaPage is))
    (λ is. queue (byte_as (byte_at page 25) QueueMetaPage is))

-- The file.

pub meta_of_page : (image : List ℕ) (p : ℕ) → p ≤ (head_of image).last → meta_in (page_at (file_of image) p)
    ≡ meta_in (abstract_page (head_of image).order (page_bytes (head_of image) image p))
meta_of_page image p low = ap meta_in (page_is image p low)

-- a page that shows none is no metadata
pub is_by_fields : (page : Page) → None ≡ meta_in page → is_meta page ≡ false
is_by_fields (Meta fields) none = absurd cc
is_by_fields page none = refl

-- The fields that are read.

-- a page that shows fields is metadata with these
pub is_fields : (page : Page) (fields : Metadata) → Some fields ≡ meta_in page → page ≡ Meta fields
is_fields (Meta found) fields some = cc
is_fields Zero fields some = absurd cc
is_fields page fields some = absurd cc

pub no_table : (order : Order) (page : List ℕ) → is_page_size (length page) ≡ true → None ≡ meta_in (abstract_page order page) → byte_at page 25 ≡ 8 → ⊥
no_table order page size none is = let e = ap meta_in (table_page order page size is) in cc (e, none)

pub no_tree : (order : Order) (page : List ℕ) → is_page_size (length page) ≡ true → None ≡ meta_in (abstract_page order page) → byte_at page 25 ≡ 9 → ⊥
no_tree order page size none is = let e = ap meta_in (tree_page order page size is) in cc (e, none)

-- the buckets of a table are no more than the pages
pub few_buckets_known : (head : Head) (number : ℕ) (page : List ℕ) (meta : HashMeta) → is_page_size (length page) ≡ true → form_code head number page ≡ None
    → Some (HashFields meta) ≡ meta_in (abstract_page head.order page) → meta.max_bucket ≤ head.last
few_buckets_known head number page meta size none some =
    elim (cases_eq (byte_at page 25) 8) [
      | inl table ↦
          let same : HashFields meta ≡ HashFields (hash_fields head.order page) = (let e = ap meta_in (table_page head.order page size table) in cc (e, some))
          in
          let few : (hash_fields head.order page).max_bucket ≤ head.last = few_buckets head.order page number head.last
          (table_formed head number page size table none) in
          (let is : meta ≡ hash_fields head.order page = cc same in rw is few)
      | inr no_table' ↦
          elim (cases_eq (byte_at page 25) 9) [
            | inl tree ↦ absurd (let e = ap meta_in (tree_page head.order page size tree) in cc (e, some))
            | inr no_tree' ↦
                elim (cases_eq (byte_at page 25) 10) [
                  | inl queue ↦ absurd (let e = ap meta_in (queue_page head.order page size queue) in cc (e, some))
                  | inr no_queue ↦ absurd (let e = no_meta head.order page no_table' no_tree' no_queue in cc (e, some))
                ]
          ]
    ]

-- The metadata pages.

one_page_more : (file : File) (n : ℕ) → metas_below file (n + 1) ≡ metas_below file n ++ cond (is_meta (page_at file n)) (n ∷ []) []
one_page_more file n = grind (arith, range_zero_more, filter-append)

pub one_more_meta : (file : File) (n : ℕ) (metas : List ℕ) → metas ≡ metas_below file n → true ≡ is_meta (page_at file n)
    → metas ++ n ∷ [] ≡ metas_below file (n + 1)
one_more_meta file n metas below is = ap (λ ms. ms ++ n ∷ []) below ∙ sym (one_page_more file n ∙ ap (λ b. metas_below file n ++ cond b (n ∷ []) []) (sym is))

pub no_more_meta : (file : File) (n : ℕ) (metas : List ℕ) → metas ≡ metas_below file n → false ≡ is_meta (page_at file n) → metas ≡ metas_below file (n + 1)
no_more_meta file n metas below other = below ∙ sym (one_page_more file n ∙ ap (λ b. metas_below file n ++ cond b (n ∷ []) []) (sym other)
    ∙ append-nil (metas_below file n))

-- all of them
pub all_metas : (file : File) (n : ℕ) (metas : List ℕ) → n ≡ file.last + 1 → metas ≡ metas_below file n → metas ≡ meta_pages file
unfolding meta_pages
all_metas file n metas all below = below ∙ ap (metas_below file) all

-- metadata by its type

pub table_fields : (order : Order) (page : List ℕ) → is_page_size (length page) ≡ true → page_type (byte_at page 25) ≡ HashMetaPage
    → Some (HashFields (hash_fields order page)) ≡ meta_in (abstract_page order page)
table_fields order page size is = sym (ap meta_in (table_page order page size (byte_as (byte_at page 25) HashMetaPage is)))

pub tree_fields : (order : Order) (page : List ℕ) → is_page_size (length page) ≡ true → page_type (byte_at page 25) ≡ BtreeMetaPage
    → Some (BtreeFields (btree_fields order page)) ≡ meta_in (abstract_page order page)
tree_fields order page size is = sym (ap meta_in (tree_page order page size (byte_as (byte_at page 25) BtreeMetaPage is)))

pub record_fields : (order : Order) (page : List ℕ) → is_page_size (length page) ≡ true → page_type (byte_at page 25) ≡ QueueMetaPage
    → Some (QueueFields (queue_fields order page)) ≡ meta_in (abstract_page order page)
record_fields order page size is = sym (ap meta_in (queue_page order page size (byte_as (byte_at page 25) QueueMetaPage is)))

pub ruleset fields_by_type = (table_fields, tree_fields, record_fields, other_fields)

-- which metadata a page holds
pub ruleset held_fields = (is_fields, few_buckets_known, no_table, no_tree, other_formed)
