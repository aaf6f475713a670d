-- What a page without a fault of form is, by its type.
use Rattle.std.proofs.Common.{◌≡◌, ℕ, zero, suc, ◌≤◌, Bool, true, false, List, length, arith, refl, sym, ◌∙◌, ap, subst, inl, inr}
use Rattle.std.specs.Prelude.{Option, Some, None, ◌&&◌, nat_lt, not}
use Rattle.std.proofs.lemmas.Bool.{cases_Bool, ltb-false, or_parts}
use Rattle.bdb_slots.specs.of_form.declared.view.PageView.{PageView}
use Rattle.bdb_slots.specs.of_form.declared.view.PageView.TheVariants.{Zero as ZeroView, Free as FreeView, Meta as MetaView, Leaf as LeafView, Internal as InternalView}
use Rattle.bdb_slots.specs.of_form.declared.view.PageView.TheVariants.{RecnoLeaf as RecnoLeafView, RecnoInternal as RecnoInternalView, DupLeaf as DupLeafView}
use Rattle.bdb_slots.specs.of_form.declared.view.PageView.TheVariants.{Hash as HashView, Overflow as OverflowView, Queue as QueueView}
use Rattle.bdb_slots.specs.of_form.Seen.{page_seen}
use Rattle.bdb_faults.specs.of_format.declared.kinds.Order.{Order}
use Rattle.bdb_faults.specs.of_format.declared.metadata.FileKind.{FileKind}
use Rattle.bdb_faults.specs.of_format.declared.metadata.FileKind.TheVariants.{Btree, Hash, Queue}
use Rattle.bdb_faults.specs.of_format.declared.metadata.Head.{Head}
use Rattle.bdb_faults.specs.of_format.Terms.{BtreeFields, HashFields, Meta, abstract_page, body_code, btree_fields, byte_at, file_of, first_row, form_code}
use Rattle.bdb_faults.specs.of_format.Terms.{hash_fields, head_of, identity_rows, is_meta, is_page_size, is_tree_type, is_zero, may_have_type, metadata_rows}
use Rattle.bdb_faults.specs.of_format.Terms.{page_as, page_bytes, page_code, page_type, refs, targets_of, type_of, typed_code}
use Rattle.bdb_faults.specs.of_format.declared.pages.PageType.{PageType}
use Rattle.bdb_faults.specs.of_format.declared.pages.PageType.TheVariants.{HashMeta as HashMetaPage, BtreeMeta as BtreeMetaPage, QueueMeta as QueueMetaPage}
use Rattle.bdb_faults.proofs.of_format.GraphLemmas.{typed_page, zero_page}
use Rattle.bdb_faults.proofs.of_format.PageLemmas.{metadata_code}
use Rattle.bdb_faults.proofs.of_format.TypeLemmas.{byte_as}
use Rattle.bdb_faults.proofs.of_format.VerdictLemmas.{AllFail, none_is_first_row}
use Rattle.bdb_faults.proofs.of_format.FileLemmas.{page_is, kind_is}
use Rattle.bdb_slots.specs.Slots.{IsNoMetadata, placed}
use Rattle.bdb_image.proofs.CodeLemmas.{btree_last, code_by, code_same, is_same, not_zero, other_code, ten_fails, tree_code, two_none, typed_metadata}

pub refs_of_page : (image : List ℕ) (p : ℕ) → p ≤ (head_of image).last
    → refs (file_of image) p ≡ placed 0 (targets_of (head_of image).kind p (abstract_page (head_of image).order (page_bytes (head_of image) image p)))
unfolding refs
refs_of_page image p low = grind (arith, kind_is, page_is)

-- Metadata.

-- where no row holds, none of the number and the type does, and none of the type's own
parts_none : (above zeros : Bool) (identity typed : Option ℕ) → zeros ≡ false → code_by (above && zeros) identity typed ≡ None
    → (identity ≡ None) × (typed ≡ None)
parts_none above true identity typed other none = absurd cc
parts_none true false (Some code) typed other none = absurd cc
parts_none false false (Some code) typed other none = absurd cc
parts_none true false None typed other none = (refl, none)
parts_none false false None typed other none = (refl, none)

pub metadata_formed : (head : Head) (number : ℕ) (page : List ℕ) (kind : FileKind) → is_page_size (length page) ≡ true → byte_at page 25 ≡ type_of kind
    → form_code head number page ≡ None
    → first_row (metadata_rows head.order page number head.last kind) ≡ None
unfolding form_code
metadata_formed head number page kind size is none =
    let identity : Option ℕ = first_row (identity_rows head.order page number (may_have_type head.kind number)) in
    let typed : Option ℕ = typed_code head number page (page_type (byte_at page 25)) in
    let parts : (identity ≡ None) × (typed ≡ None) = parts_none (nat_lt 0 number) (is_zero page) identity typed (not_zero page kind size is) none in
    metadata_code head.order page number head.last kind (may_have_type head.kind number) parts.0 is ∙ sym (typed_metadata head number page kind is) ∙ parts.1

pub table_formed : (head : Head) (number : ℕ) (page : List ℕ) → is_page_size (length page) ≡ true → byte_at page 25 ≡ 8 → form_code head number page ≡ None
    → first_row (metadata_rows head.order page number head.last Hash) ≡ None
table_formed head number page size is none = metadata_formed head number page Hash size is none

pub tree_formed : (head : Head) (number : ℕ) (page : List ℕ) → is_page_size (length page) ≡ true → byte_at page 25 ≡ 9 → form_code head number page ≡ None
    → first_row (metadata_rows head.order page number 0 Btree) ≡ None
tree_formed head number page size is none = ap first_row (sym (btree_last head.order page number head.last)) ∙ metadata_formed head number page Btree size is
    none

pub table_page : (order : Order) (page : List ℕ) → is_page_size (length page) ≡ true → byte_at page 25 ≡ 8
    → abstract_page order page ≡ Meta (HashFields (hash_fields order page))
unfolding abstract_page
table_page order page size is = rw (not_zero page Hash size is, abstract_page) (ap (λ byte. page_as order page (page_type byte)) is)

pub tree_page : (order : Order) (page : List ℕ) → is_page_size (length page) ≡ true → byte_at page 25 ≡ 9
    → abstract_page order page ≡ Meta (BtreeFields (btree_fields order page))
unfolding abstract_page
tree_page order page size is = rw (not_zero page Btree size is, abstract_page) (ap (λ byte. page_as order page (page_type byte)) is)

-- the buckets are no more than the pages
pub few_buckets : (order : Order) (page : List ℕ) (number last : ℕ) → first_row (metadata_rows order page number last Hash) ≡ None
    → (hash_fields order page).max_bucket ≤ last
unfolding metadata_rows
few_buckets order page number last none = grind (arith, AllFail, none_is_first_row, ltb-false, or_parts)

-- Other pages.

pub identity_none : (identity typed : Option ℕ) → code_by false identity typed ≡ None → identity ≡ None
identity_none None typed none = refl
identity_none (Some code) typed none = absurd cc

-- page 0 of a well-formed image has the type of its kind
pub own_type : (head : Head) (page : List ℕ) → form_code head 0 page ≡ None → byte_at page 25 ≡ type_of head.kind
unfolding form_code
own_type head page none = is_same (byte_at page 25) (type_of head.kind) (two_none _ _ (identity_none _ _ none))

not_own : (kind : FileKind) (byte : ℕ) → byte ≡ type_of kind → (kind ≡ Queue → ⊥) → (byte ≡ 8 → ⊥) → (byte ≡ 9 → ⊥) → ⊥
not_own Btree byte own forest table tree = tree own
not_own Hash byte own forest table tree = table own
not_own Queue byte own forest table tree = forest refl

-- page 0 has the type of metadata
page_zero : (head : Head) (page : List ℕ) → (head.kind ≡ Queue → ⊥) → form_code head 0 page ≡ None → (byte_at page 25 ≡ 8 → ⊥) → (byte_at page 25 ≡ 9 → ⊥) → ⊥
unfolding form_code
page_zero head page forest none table tree = grind (arith, is_same, two_none, identity_none, not_own)

pub other_formed : (head : Head) (number : ℕ) (page : List ℕ) → (head.kind ≡ Queue → ⊥) → form_code head number page ≡ None
    → (byte_at page 25 ≡ 8 → ⊥) → (byte_at page 25 ≡ 9 → ⊥) → page_code head.order number page ≡ None
unfolding page_code
other_formed head zero page forest none table tree = absurd (page_zero head page forest none table tree)
other_formed head (suc n) page forest none table tree =
    let byte : ℕ = byte_at page 25 in
    let identity : Option ℕ = first_row (identity_rows head.order page (suc n) is_tree_type) in
    sym (tree_code head (suc n) page (omega arith) forest
    ∙ code_same (is_zero page) identity (typed_code head (suc n) page (page_type byte)) (body_code head.order page (page_type byte))
    (λ passed. other_code head (suc n) page byte (λ is. table (byte_as byte HashMetaPage is))
    (λ is. tree (byte_as byte BtreeMetaPage is)) (two_none _ _ passed)))
    ∙ none

-- a page with another type isn't metadata
pub other_page : (order : Order) (page : List ℕ) (t : PageType) → (t ≡ HashMetaPage → ⊥) → (t ≡ BtreeMetaPage → ⊥) → (t ≡ QueueMetaPage → ⊥)
    → is_meta (page_as order page t) ≡ false
other_page order page HashMetaPage hash btree queue = absurd (hash refl)
other_page order page BtreeMetaPage hash btree queue = absurd (btree refl)
other_page order page QueueMetaPage hash btree queue = absurd (queue refl)
other_page order page t hash btree queue = refl

-- a page of a tree with another type isn't: no page of a tree has the type of queue metadata
other_abstract : (order : Order) (number : ℕ) (page : List ℕ) → page_code order number page ≡ None → (byte_at page 25 ≡ 8 → ⊥) → (byte_at page 25 ≡ 9 → ⊥)
    → is_meta (abstract_page order page) ≡ false
unfolding page_code
other_abstract order number page none table tree =
    elim (cases_Bool (is_zero page)) [
      | inl empty ↦ ap is_meta (zero_page order page empty)
      | inr some ↦
          let identity : Option ℕ = first_row (identity_rows order page number is_tree_type) in
          let typed : Option ℕ = body_code order page (page_type (byte_at page 25)) in
          let passed : identity ≡ None = identity_none identity typed (ap (λ b. code_by b identity typed) (sym some) ∙ none) in
          ap is_meta (typed_page order page some)
          ∙ other_page order page (page_type (byte_at page 25)) (λ is. table (byte_as (byte_at page 25) HashMetaPage is))
          (λ is. tree (byte_as (byte_at page 25) BtreeMetaPage is))
          (λ is. ten_fails (subst (λ b. not (is_tree_type b) ≡ false) (byte_as (byte_at page 25) QueueMetaPage is) (two_none _ _ passed)))
    ]

other_view : (view : PageView) → is_meta (page_seen view) ≡ false → IsNoMetadata view
other_view (MetaView view) other = absurd cc
other_view (ZeroView view) other = tt
other_view (FreeView view) other = tt
other_view (LeafView view) other = tt
other_view (InternalView view) other = tt
other_view (RecnoLeafView view) other = tt
other_view (RecnoInternalView view) other = tt
other_view (DupLeafView view) other = tt
other_view (HashView view) other = tt
other_view (OverflowView view) other = tt
other_view (QueueView view) other = tt

-- the view of a page without the type of metadata shows none
pub no_metadata : (view : PageView) (order : Order) (number : ℕ) (page : List ℕ) → page_seen view ≡ abstract_page order page
    → page_code order number page ≡ None
    → (byte_at page 25 ≡ 8 → ⊥) → (byte_at page 25 ≡ 9 → ⊥) → IsNoMetadata view
no_metadata view order number page seen none table tree = other_view view (ap is_meta seen ∙ other_abstract order number page none table tree)
