-- What the metadata of a queue keeps, and that its pages have room for their slots.
use Rattle.std.proofs.lemmas.Bool.Decides.{nat_tests}
use Rattle.std.proofs.Common.{◌≡◌, ℕ, ◌+◌, ◌-◌, ◌*◌, ◌<◌, ◌≤◌, true, false, List, length, drop, arith, sym, ◌∙◌, ap, subst, length-drop, Some, None, ◌==◌}
use Rattle.std.proofs.lemmas.Bool.{eqb-true, not-false, or_parts}
use Rattle.std.proofs.Math.Nat.{div-mul-le_self}
use Rattle.bdb_overflow.specs.of_form.Formed.{QueuePage}
use Rattle.bdb_overflow.specs.of_format.declared.kinds.Order.{Order}
use Rattle.bdb_overflow.specs.of_format.declared.metadata.FileKind.TheVariants.{Queue as QueueKind}
use Rattle.bdb_overflow.specs.of_format.declared.metadata.Head.{Head}
use Rattle.bdb_overflow.specs.of_format.declared.metadata.QueueMeta.{QueueMeta}
use Rattle.bdb_overflow.specs.of_format.Terms.{Meta, Queue, QueueFields, abstract_page, byte_at, file_of, first_row, form_code, four_at, head_of, is_page_size}
use Rattle.bdb_overflow.specs.of_format.Terms.{is_zero, metadata_rows, pad4, page_as, page_at, page_bytes, page_type, queue_fields, records_per_page, type_in}
use Rattle.bdb_overflow.proofs.of_format.VerdictLemmas.{AllFail, none_is_first_row}
use Rattle.bdb_overflow.specs.of_image.Linked.{HasMetadata, IsForest}
use Rattle.bdb_overflow.proofs.of_image.FirstLemmas.{formed_accepted, formed_last, formed_page}
use Rattle.bdb_overflow.proofs.of_image.FormedLemmas.{accepted_paged, page_length}
use Rattle.bdb_overflow.proofs.of_image.MetaLemmas.{queue_formed}
use Rattle.bdb_queue.specs.Records.{HasSlots}
use Rattle.bdb_overflow.proofs.of_format.GraphLemmas.{typed_page}
use Rattle.bdb_overflow.proofs.of_format.FileLemmas.{last_page, page_is}
use Rattle.bdb_overflow.proofs.of_image.FitLemmas.{type_byte}

-- a page of a type is that page of its bytes
page_of_type : (image : List ℕ) (p t : ℕ) → p ≤ (file_of image).last → type_in (page_at (file_of image) p) ≡ Some t
    → (byte_at (page_bytes (head_of image) image p) 25 ≡ t) × (page_at (file_of image) p ≡ page_as (head_of image).order (page_bytes (head_of image) image p)
    (page_type t))
page_of_type image p t low is =
    let head : Head = head_of image in
    let bytes : List ℕ = page_bytes head image p in
    let page : page_at (file_of image) p ≡ abstract_page head.order bytes = page_is image p (omega (arith, low, last_page image)) in
    let byte : (is_zero bytes ≡ false) × (byte_at bytes 25 ≡ t) = type_byte head.order bytes t (ap type_in (sym page) ∙ is) in
    (byte.1, page ∙ (typed_page head.order bytes byte.0 ∙ ap (λ b. page_as head.order bytes (page_type b)) byte.1))

-- a page of a file has the size of its pages
page_size : (image : List ℕ) (p : ℕ) → IsForest image → p ≤ (file_of image).last → length (page_bytes (head_of image) image p) ≡ (head_of image).page_size
page_size image p forest low = grind (arith, page_length, formed_accepted, formed_last, last_page)

-- the metadata of a queue tells how many records a page has, at least one, and no record has number 0
pub record IsQueue (image : List ℕ) (meta : QueueMeta) : Type 0 where
  pub per_page : meta.per_page ≡ records_per_page (head_of image).page_size meta.re_len
  pub some : 1 ≤ meta.per_page
  pub first : 1 ≤ meta.first

unequal : (n : ℕ) → (n == 0) ≡ false → 1 ≤ n
unequal n some = grind (arith, nat_tests)

-- what no row of the metadata of a queue leaves of its fields
record IsKept (size : ℕ) (meta : QueueMeta) : Type 0 where
  per_page : meta.per_page ≡ records_per_page size meta.re_len
  some : 1 ≤ records_per_page size meta.re_len
  first : 1 ≤ meta.first

fields_kept : (order : Order) (page : List ℕ) → first_row (metadata_rows order page 0 0 QueueKind) ≡ None → IsKept (length page) (queue_fields order page)
unfolding metadata_rows
fields_kept order page none = grind (arith, AllFail, none_is_first_row, or_parts, eqb-true, not-false, unequal)

pub queue_is : (image : List ℕ) (meta : QueueMeta) → IsForest image → HasMetadata (file_of image) (QueueFields meta) → IsQueue image meta
queue_is image meta forest has =
    let head : Head = head_of image in
    let bytes : List ℕ = page_bytes head image has.page in
    let size : length bytes ≡ head.page_size = page_size image has.page forest has.inside in
    let at = page_of_type image has.page 10 has.inside (ap type_in has.is) in
    let none : form_code head has.page bytes ≡ None = formed_page image has.page forest.formed.form (omega (arith, has.inside, last_page image)) in
    let kept : IsKept (length bytes) (queue_fields head.order bytes) = fields_kept head.order bytes
    (queue_formed head has.page bytes (subst (λ n. is_page_size n ≡ true) (sym size)
    (accepted_paged image head (formed_accepted image head forest.formed)).legal) at.0 none) in
    let pages : Meta (QueueFields meta) ≡ Meta (QueueFields (queue_fields head.order bytes)) = sym has.is ∙ at.1 in
    let same : meta ≡ queue_fields head.order bytes = cc in
    let told : IsKept head.page_size meta = subst (λ n. IsKept n meta) size (subst (IsKept (length bytes)) (sym same) kept) in
    record { per_page = told.per_page; some = omega (arith, told.per_page, told.some); first = told.first }

pub some_slots : (image : List ℕ) (meta : QueueMeta) → IsForest image → HasMetadata (file_of image) (QueueFields meta) → 0 < meta.per_page
some_slots image meta forest has = let some : 1 ≤ meta.per_page = (queue_is image meta forest has).some in omega arith

-- a page of records has the slots of a page
pub page_slots : (image : List ℕ) (meta : QueueMeta) (p : ℕ) (view : QueuePage) → IsForest image → HasMetadata (file_of image) (QueueFields meta)
    → p ≤ (file_of image).last
    → Queue view.number view.bytes ≡ page_at (file_of image) p → HasSlots meta view.bytes
page_slots image meta p view forest has low is =
    let bytes : List ℕ = page_bytes (head_of image) image p in
    let at = page_of_type image p 11 low (ap type_in (sym is)) in
    let pages : Queue view.number view.bytes ≡ Queue (four_at (head_of image).order bytes 8) (drop 28 bytes) = is ∙ at.1 in
    let same : view.bytes ≡ drop 28 bytes = cc in
    let queue : IsQueue image meta = queue_is image meta forest has in
    let fits : records_per_page (head_of image).page_size meta.re_len * pad4 (meta.re_len + 1) ≤ (head_of image).page_size - 28 = div-mul-le_self
    ((head_of image).page_size - 28) (pad4 (meta.re_len + 1)) in
    omega (arith, ap length same, length-drop 28 bytes, page_size image p forest low, ap (λ n. n * pad4 (meta.re_len + 1)) queue.per_page, fits)
