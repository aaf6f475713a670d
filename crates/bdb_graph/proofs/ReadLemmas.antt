-- Metadata as it's read from its page, and that a master is a btree.
use Rattle.std.proofs.Common.{◌≡◌, ℕ, ◌<◌, ◌≤◌, true, false, List, [], length, Some, None, arith, refl, sym, ◌∙◌, ap, subst, inl, inr, Contains}
use Rattle.std.proofs.lemmas.Bool.{cases_eq}
use Rattle.bdb_image.specs.of_format.declared.kinds.Order.{Order}
use Rattle.bdb_image.specs.of_format.declared.metadata.BtreeMeta.{BtreeMeta}
use Rattle.bdb_image.specs.of_format.declared.metadata.FileKind.TheVariants.{Btree}
use Rattle.bdb_image.specs.of_format.Terms.{BtreeFields, HashFields, Meta, Metadata, Page, QueueFields, abstract_page, are_wrong_flags, btree_fields, byte_at}
use Rattle.bdb_image.specs.of_format.Terms.{fields_in, file_of, form_code, four_at, has_bit, hash_fields, head_of, is_page_size, is_recno, master_in}
use Rattle.bdb_image.specs.of_format.Terms.{metadata_rows, names_databases, page_at, page_bytes, queue_fields}
use Rattle.bdb_image.proofs.of_format.ListLemmas.{only_member}
use Rattle.bdb_image.proofs.of_format.MemberLemmas.{no_member}
use Rattle.bdb_image.proofs.of_format.VerdictLemmas.{AllFail, none_is_first_row}
use Rattle.bdb_image.proofs.of_format.FileLemmas.{last_page, page_is}
use Rattle.bdb_image.specs.Formed.{IsAccepted}
use Rattle.bdb_image.specs.Linked.{HasMetadata, IsForest}
use Rattle.bdb_image.specs.Metas.{meta_in}
use Rattle.bdb_image.proofs.FirstLemmas.{formed_accepted, formed_page}
use Rattle.bdb_image.proofs.FormedLemmas.{IsPaged, accepted_paged, page_length}
use Rattle.bdb_image.proofs.HeldLemmas.{table_page, tree_formed, tree_page}
use Rattle.bdb_image.proofs.MetaLemmas.{no_meta, queue_page}

-- what the bytes of a page say where it's metadata
abbrev pub IsReadAs : Order → List ℕ → Metadata → Type 0
IsReadAs order page (BtreeFields meta) = (byte_at page 25 ≡ 9) × (btree_fields order page ≡ meta)
IsReadAs order page (HashFields meta) = (byte_at page 25 ≡ 8) × (hash_fields order page ≡ meta)
IsReadAs order page (QueueFields meta) = (byte_at page 25 ≡ 10) × (queue_fields order page ≡ meta)

meta_read : (order : Order) (page : List ℕ) (fields : Metadata) → is_page_size (length page) ≡ true → abstract_page order page ≡ Meta fields
    → IsReadAs order page fields
meta_read order page fields size is =
    elim (cases_eq (byte_at page 25) 9) [
      | inl tree ↦
          let same : BtreeFields (btree_fields order page) ≡ fields = cc (sym (tree_page order page size tree) ∙ is) in
          subst (IsReadAs order page) same (tree, refl)
      | inr no_tree ↦ elim (cases_eq (byte_at page 25) 8) [
        | inl table ↦
            let same : HashFields (hash_fields order page) ≡ fields = cc (sym (table_page order page size table) ∙ is) in
            subst (IsReadAs order page) same (table, refl)
        | inr no_table ↦ elim (cases_eq (byte_at page 25) 10) [
          | inl queue ↦
              let same : QueueFields (queue_fields order page) ≡ fields = cc (sym (queue_page order page size queue) ∙ is) in
              subst (IsReadAs order page) same (queue, refl)
          | inr no_queue ↦ let none : Some fields ≡ None = sym (ap meta_in is) ∙ no_meta order page no_table no_tree no_queue in absurd cc
        ]
      ]
    ]

-- a page without a fault of form that has metadata
pub record IsMetaPage (image : List ℕ) (p : ℕ) (fields : Metadata) : Type 0 where
  pub size : is_page_size (length (page_bytes (head_of image) image p)) ≡ true
  pub legal : is_page_size (head_of image).page_size ≡ true
  pub formed : form_code (head_of image) p (page_bytes (head_of image) image p) ≡ None
  pub read : IsReadAs (head_of image).order (page_bytes (head_of image) image p) fields

pub page_of_meta : (image : List ℕ) (fields : Metadata) → IsForest image → (has : HasMetadata (file_of image) fields)
    → IsMetaPage image has.page fields
page_of_meta image fields forest has =
    let accepted : IsAccepted image (head_of image) = formed_accepted image (head_of image) forest.formed in
    let paged : IsPaged image (head_of image) = accepted_paged image (head_of image) accepted in
    let low : has.page ≤ (head_of image).last = omega (arith, has.inside, last_page image) in
    let there : has.page < (head_of image).pages = omega (arith, low, paged.last) in
    let size : is_page_size (length (page_bytes (head_of image) image has.page)) ≡ true =
    ap is_page_size (page_length image (head_of image) has.page accepted there) ∙ paged.legal in
    record {
      size = size;
      legal = paged.legal;
      formed = formed_page image has.page forest.formed.form low;
      read = meta_read (head_of image).order (page_bytes (head_of image) image has.page) fields size (sym (page_is image has.page low) ∙ has.is);
    }

-- the flags of a btree go together
pub flags_fit : (image : List ℕ) (p : ℕ) (meta : BtreeMeta) → IsMetaPage image p (BtreeFields meta) → are_wrong_flags p meta.flags ≡ false
unfolding metadata_rows
flags_fit image p meta is =
    let order : Order = (head_of image).order in
    let page : List ℕ = page_bytes (head_of image) image p in
    let fail : AllFail (metadata_rows order page p 0 Btree) =
    none_is_first_row (metadata_rows order page p 0 Btree) (tree_formed (head_of image) p page is.size is.read.0 is.formed) in
    let flags : four_at order page 48 ≡ meta.flags = ap (λ (m : BtreeMeta). m.flags) is.read.1 in
    subst (λ n. are_wrong_flags p n ≡ false) flags fail.1.1.1.1.1.1.1.1.1.0

-- the metadata of a page is its own
pub is_of_page : (page : Page) (fields : Metadata) → Contains (fields_in page) fields → page ≡ Meta fields
is_of_page (Meta other) fields at = ap (λ (f : Metadata). Meta f) (only_member other fields at)
is_of_page page fields at = absurd (no_member [] fields refl at)

-- A master is a btree.

pub master_is : (page : Page) (meta : BtreeMeta) → master_in page ≡ Some meta → page ≡ Meta (BtreeFields meta)
master_is (Meta (BtreeFields other)) meta is = grind arith
master_is page meta is = absurd cc

flags_of_master : (page : Page) (meta : BtreeMeta) → master_in page ≡ Some meta → names_databases meta ≡ true
flags_of_master (Meta (BtreeFields other)) meta is = grind arith
flags_of_master page meta is = absurd cc

-- flags of a master go with no records
no_recno : (flags : ℕ) → are_wrong_flags 0 flags ≡ false → has_bit flags 0x20 ≡ true → has_bit flags 0x02 ≡ false
no_recno flags fit master = grind arith

pub master_keys : (image : List ℕ) (meta : BtreeMeta) → IsForest image → master_in (page_at (file_of image) 0) ≡ Some meta → is_recno meta ≡ false
master_keys image meta forest is =
    let read : IsMetaPage image 0 (BtreeFields meta) =
    page_of_meta image (BtreeFields meta) forest (record { page = 0; inside = omega arith; is = master_is (page_at (file_of image) 0) meta is }) in
    no_recno meta.flags (flags_fit image 0 meta read)
    (flags_of_master (page_at (file_of image) 0) meta is)
