-- Pages by the rows of form and of metadata.
use Rattle.std.proofs.Common.{◌≡◌, ℕ, ◌≤◌, true, false, List, [], ◌∷◌, length, Option, None, Some, refl, sym, ◌∙◌, ap, subst, inl, inr, not, Result, Ok, Err}
use Rattle.std.proofs.Common.{is_err, is_some}
use Rattle.std.proofs.lemmas.Bool.{cases_Bool}
use Rattle.bdb_law_sums.specs.of_format.declared.kinds.Order.{Order}
use Rattle.bdb_law_sums.specs.of_format.declared.metadata.BtreeMeta.{BtreeMeta}
use Rattle.bdb_law_sums.specs.of_format.declared.metadata.FileKind.TheVariants.{Btree, Hash, Queue}
use Rattle.bdb_law_sums.specs.of_format.declared.metadata.HashMeta.{HashMeta}
use Rattle.bdb_law_sums.specs.of_format.declared.pages.PageType.{PageType}
use Rattle.bdb_law_sums.specs.of_format.declared.pages.PageType.TheVariants.{HashMeta as HashMetaPage, BtreeMeta as BtreeMetaPage, QueueMeta as QueueMetaPage}
use Rattle.bdb_law_sums.specs.of_format.Terms.{BtreeFields, HashFields, Meta, NoType, Page, Row, abstract_page, answer, body_code, btree_fields, byte_at}
use Rattle.bdb_law_sums.specs.of_format.Terms.{coded, first_row, four_at, hash_fields, identity_rows, is_page_size, is_tree_type, metadata_rows, page_code}
use Rattle.bdb_law_sums.specs.of_format.Terms.{page_type}
use Rattle.bdb_law_sums.specs.of_form.declared.view.PageView.{PageView}
use Rattle.bdb_law_sums.specs.of_form.Formed.{unless}
use Rattle.bdb_law_sums.specs.of_form.Seen.{form_seen}
use Rattle.bdb_law_sums.specs.of_image.Metas.{meta_in}
use Rattle.bdb_law_sums.proofs.of_format.TypeLemmas.{byte_as}
use Rattle.bdb_law_sums.proofs.of_image.CodeLemmas.{code_by, not_zero, ten_fails, two_none}
use Rattle.bdb_law_sums.proofs.of_image.HeldLemmas.{few_buckets, identity_none, table_page, tree_page}
use Rattle.bdb_law_sums.proofs.of_image.MetaLemmas.{other_fields}
use Rattle.bdb_survey.specs.Salvage.{meta_code, salvaged_page, unless_code}

-- A page by its two codes.

-- where no row of metadata holds, the page is what form says of it
pub without_meta : (order : Order) (last : ℕ) (page : List ℕ) → meta_code order last page (page_type (byte_at page 25)) ≡ None
    → salvaged_page order last page ≡ unless_code (page_code order (four_at order page 8) page) (abstract_page order page)
unfolding salvaged_page
without_meta order last page none =
    ap (λ code. unless_code (page_code order (four_at order page 8) page) (unless_code code (abstract_page order page))) none

-- where no row of form holds, it's what metadata say of it
pub without_code : (order : Order) (last : ℕ) (page : List ℕ) → page_code order (four_at order page 8) page ≡ None
    → salvaged_page order last page ≡ unless_code (meta_code order last page (page_type (byte_at page 25))) (abstract_page order page)
unfolding salvaged_page
without_code order last page none =
    ap (λ code. unless_code code (unless_code (meta_code order last page (page_type (byte_at page 25))) (abstract_page order page))) none

pub both_none : (order : Order) (last : ℕ) (page : List ℕ) → page_code order (four_at order page 8) page ≡ None
    → meta_code order last page (page_type (byte_at page 25)) ≡ None
    → salvaged_page order last page ≡ abstract_page order page
both_none order last page none held =
    without_code order last page none ∙ ap (λ code. unless_code code (abstract_page order page)) held

refused : (code meta : Option ℕ) (page : Page) → is_some meta ≡ true → unless_code code (unless_code meta page) ≡ NoType
refused None None page some = absurd cc
refused None (Some row) page some = refl
refused (Some row) meta page some = refl

-- where a row of metadata holds, there is no page
pub with_meta : (order : Order) (last : ℕ) (page : List ℕ) → is_some (meta_code order last page (page_type (byte_at page 25))) ≡ true
    → salvaged_page order last page ≡ NoType
unfolding salvaged_page
with_meta order last page some =
    refused (page_code order (four_at order page 8) page) (meta_code order last page (page_type (byte_at page 25))) (abstract_page order page) some

-- What a test of metadata answers.

-- a refusal is a row that holds
refused_by : {T Rows : Type 0} (code : Rows → ℕ) (rows : List (Row ℕ)) (value : T) (result : Result T Rows) → coded code result ≡ answer rows value
    → is_err result ≡ is_some (first_row rows)
refused_by code [] value (Ok given) is = refl
refused_by code [] value (Err row) is = absurd cc
refused_by code (row ∷ rows) value result is = elim (cases_Bool row.holds) [
  | inl holds ↦ by_row code row.code value result (is ∙ rw holds refl) ∙ rw holds refl
  | inr fails ↦ refused_by code rows value result (is ∙ rw fails refl) ∙ rw fails refl
]
  where
    by_row : {T Rows : Type 0} (code : Rows → ℕ) (why : ℕ) (value : T) (result : Result T Rows) → coded code result ≡ Err why → is_err result ≡ true
    by_row code why value (Ok given) is = absurd cc
    by_row code why value (Err row) is = refl

pub table_refused : {Rows : Type 0} (code : Rows → ℕ) (order : Order) (last number : ℕ) (page : List ℕ) (result : Result HashMeta Rows)
    → number ≡ four_at order page 8 → page_type (byte_at page 25) ≡ HashMetaPage
    → coded code result ≡ answer (metadata_rows order page number last Hash) (hash_fields order page)
    → is_err result ≡ is_some (meta_code order last page (page_type (byte_at page 25)))
table_refused code order last number page result own type is =
    refused_by code (metadata_rows order page number last Hash) (hash_fields order page) result is
    ∙ (ap (λ n. is_some (first_row (metadata_rows order page n last Hash))) own ∙ ap (λ t. is_some (meta_code order last page t)) (sym type))

pub tree_refused : {Rows : Type 0} (code : Rows → ℕ) (order : Order) (last number : ℕ) (page : List ℕ) (result : Result BtreeMeta Rows)
    → number ≡ four_at order page 8 → page_type (byte_at page 25) ≡ BtreeMetaPage
    → coded code result ≡ answer (metadata_rows order page number 0 Btree) (btree_fields order page)
    → is_err result ≡ is_some (meta_code order last page (page_type (byte_at page 25)))
tree_refused code order last number page result own type is =
    refused_by code (metadata_rows order page number 0 Btree) (btree_fields order page) result is
    ∙ (ap (λ n. is_some (first_row (metadata_rows order page n 0 Btree))) own ∙ ap (λ t. is_some (meta_code order last page t)) (sym type))

-- pages of other types have no such rows
pub other_code : (order : Order) (last : ℕ) (page : List ℕ) (t : PageType) → (t ≡ HashMetaPage → ⊥) → (t ≡ BtreeMetaPage → ⊥)
    → meta_code order last page t ≡ None
other_code order last page HashMetaPage hash btree = absurd (hash refl)
other_code order last page BtreeMetaPage hash btree = absurd (btree refl)
other_code order last page t hash btree = refl

-- The fields of metadata.

-- an answer is the fields of the page, on which no row holds
answered : {T Rows : Type 0} (code : Rows → ℕ) (rows : List (Row ℕ)) (value given : T) (result : Result T Rows) → coded code result ≡ answer rows value
    → result ≡ Ok given → (first_row rows ≡ None) × (value ≡ given)
answered code [] value given result is ok = (refl, cc)
answered code (row ∷ rows) value given result is ok = elim (cases_Bool row.holds) [
  | inl holds ↦ absurd (let no : Ok given ≡ Err row.code = sym (ap (coded code) ok) ∙ (is ∙ rw holds refl) in cc)
  | inr fails ↦
      let rest = answered code rows value given result (is ∙ rw fails refl) ok in
      (rw fails rest.0, rest.1)
]

pub table_given : {Rows : Type 0} (code : Rows → ℕ) (order : Order) (last number : ℕ) (page : List ℕ) (meta : HashMeta) (result : Result HashMeta Rows)
    → is_page_size (length page) ≡ true → number ≡ four_at order page 8 → page_code order number page ≡ None → page_type (byte_at page 25) ≡ HashMetaPage
    → coded code result ≡ answer (metadata_rows order page number last Hash) (hash_fields order page) → result ≡ Ok meta
    → (salvaged_page order last page ≡ Meta (HashFields meta)) × (meta.max_bucket ≤ last)
table_given code order last number page meta result legal own none type is ok =
    let both = answered code (metadata_rows order page number last Hash) (hash_fields order page) meta result is ok in
    let form : page_code order (four_at order page 8) page ≡ None = ap (λ n. page_code order n page) (sym own) ∙ none in
    let held : meta_code order last page (page_type (byte_at page 25)) ≡ None =
    ap (meta_code order last page) type ∙ (ap (λ n. first_row (metadata_rows order page n last Hash)) (sym own) ∙ both.0) in (
      both_none order last page form held
          ∙ (table_page order page legal (byte_as (byte_at page 25) HashMetaPage type) ∙ ap (λ m. Meta (HashFields m)) both.1),
      subst (λ (m : HashMeta). m.max_bucket ≤ last) both.1 (few_buckets order page number last both.0),
    )

pub tree_given : {Rows : Type 0} (code : Rows → ℕ) (order : Order) (last number : ℕ) (page : List ℕ) (meta : BtreeMeta) (result : Result BtreeMeta Rows)
    → is_page_size (length page) ≡ true → number ≡ four_at order page 8 → page_code order number page ≡ None → page_type (byte_at page 25) ≡ BtreeMetaPage
    → coded code result ≡ answer (metadata_rows order page number 0 Btree) (btree_fields order page) → result ≡ Ok meta
    → salvaged_page order last page ≡ Meta (BtreeFields meta)
tree_given code order last number page meta result legal own none type is ok =
    let both = answered code (metadata_rows order page number 0 Btree) (btree_fields order page) meta result is ok in
    let form : page_code order (four_at order page 8) page ≡ None = ap (λ n. page_code order n page) (sym own) ∙ none in
    let held : meta_code order last page (page_type (byte_at page 25)) ≡ None =
    ap (meta_code order last page) type ∙ (ap (λ n. first_row (metadata_rows order page n 0 Btree)) (sym own) ∙ both.0) in
    both_none order last page form held
    ∙ (tree_page order page legal (byte_as (byte_at page 25) BtreeMetaPage type) ∙ ap (λ m. Meta (BtreeFields m)) both.1)

-- no page without a row of form is metadata of a queue
no_queue : (order : Order) (number : ℕ) (page : List ℕ) → is_page_size (length page) ≡ true → page_code order number page ≡ None
    → page_type (byte_at page 25) ≡ QueueMetaPage → ⊥
unfolding page_code
no_queue order number page legal none type =
    let ten : byte_at page 25 ≡ 10 = byte_as (byte_at page 25) QueueMetaPage type in
    let identity : Option ℕ = first_row (identity_rows order page number is_tree_type) in
    let typed : Option ℕ = body_code order page (page_type (byte_at page 25)) in
    let passed : identity ≡ None = identity_none identity typed (ap (λ b. code_by b identity typed) (sym (not_zero page Queue legal ten)) ∙ none) in
    ten_fails (subst (λ b. not (is_tree_type b) ≡ false) ten (two_none _ _ passed))

-- a page of another type is none
pub other_given : (order : Order) (last number : ℕ) (page : List ℕ) → is_page_size (length page) ≡ true → number ≡ four_at order page 8
    → page_code order number page ≡ None → (page_type (byte_at page 25) ≡ HashMetaPage → ⊥) → (page_type (byte_at page 25) ≡ BtreeMetaPage → ⊥)
    → meta_in (salvaged_page order last page) ≡ None
other_given order last number page legal own none hash btree =
    let form : page_code order (four_at order page 8) page ≡ None = ap (λ n. page_code order n page) (sym own) ∙ none in
    ap meta_in (both_none order last page form (other_code order last page (page_type (byte_at page 25)) hash btree))
    ∙ other_fields order page hash btree (no_queue order number page legal none)

-- where a row of form holds, there is no page
pub unformed : (order : Order) (last : ℕ) (page : List ℕ) → is_some (page_code order (four_at order page 8) page) ≡ true → salvaged_page order last page
    ≡ NoType
unfolding salvaged_page
unformed order last page some =
    first_refused (page_code order (four_at order page 8) page) _ some
  where
    first_refused : (code : Option ℕ) (page : Page) → is_some code ≡ true → unless_code code page ≡ NoType
    first_refused None page some = absurd cc
    first_refused (Some row) page some = refl

pub no_code : (code : Option ℕ) → is_some code ≡ false → code ≡ None
no_code None none = refl
no_code (Some row) none = absurd cc

-- a page that form refuses has a row
pub form_refused : (code : Option ℕ) (page : Page) (answer : Result PageView ℕ) → form_seen answer ≡ unless code page → is_err answer ≡ is_some code
form_refused None page (Ok view) same = refl
form_refused None page (Err row) same = absurd cc
form_refused (Some row) page (Ok view) same = absurd cc
form_refused (Some row) page (Err other) same = refl
