-- The metadata of databases that are found in a damaged file.
use Rattle.std.proofs.Common.{◌≡◌, ℕ, ◌+◌, ◌-◌, ◌*◌, ◌/◌, ◌<◌, ◌≤◌, ◌^◌, Bool, true, false, cond, List, [], ◌∷◌, ◌++◌, length, take, drop, Option, Some, None}
use Rattle.std.proofs.Math.Nat.{div-mul-le_self, mul-le-mul_right}
use Rattle.std.proofs.Common.{arith, refl, sym, ◌∙◌, subst, inl, inr}
use Rattle.std.specs.Prelude.{◌==◌, ◌&&◌, ◌||◌, nat_lt, is_none}
use Rattle.std.proofs.lemmas.Bool.{and_parts, cases_lt, ltb-true}
use Rattle.std.proofs.lemmas.Bool.Decides.{nat_tests}
use Rattle.std.proofs.lemmas.List.Elements.{All-drop, All-take}
use Rattle.bdb_model.specs.of_format.declared.kinds.Order.{Order}
use Rattle.bdb_model.specs.of_format.declared.metadata.BtreeMeta.{BtreeMeta}
use Rattle.bdb_model.specs.of_format.declared.metadata.FileKind.TheVariants.{Btree, Hash as HashFile, Queue as QueueFile}
use Rattle.bdb_model.specs.of_format.declared.metadata.HashMeta.{HashMeta}
use Rattle.bdb_model.specs.of_format.declared.metadata.QueueMeta.{QueueMeta}
use Rattle.bdb_model.specs.of_format.declared.pages.PageType.{PageType}
use Rattle.bdb_model.specs.of_format.declared.pages.PageType.TheVariants.{HashMeta as HashMetaPage, BtreeMeta as BtreeMetaPage}
use Rattle.bdb_model.specs.of_format.Terms.{BtreeFields, HashFields, Meta, Metadata, Page, QueueFields, Row, Zero, abstract_page, are_wrong_flags}
use Rattle.bdb_model.specs.of_format.Terms.{btree_fields, byte_at, field_rows, first_row, four_at, hash_fields, is_zero, metadata_rows, page_as, page_at, page_code, page_type}
use Rattle.bdb_model.specs.of_format.Terms.{queue_fields, records_per_page}
use Rattle.bdb_model.specs.of_format.Numbers.{pad4}
use Rattle.bdb_model.specs.of_format.Terms.{is_page_size}
use Rattle.bdb_model.proofs.of_format.SizeLemmas.{long_page}
use Rattle.bdb_model.proofs.of_format.VerdictLemmas.{AllFail, none_is_first_row}
use Rattle.bdb_law_kept.specs.of_text.WrittenLaw.{AreBytes}
use Rattle.bdb_law_kept.proofs.BytesLemmas.{number_fits}
use Rattle.bdb_apart.specs.Queues.{bytes_at, is_queue_meta, queue_in, queue_on}
use Rattle.bdb_rescue.specs.Kept.{Reading, file_in}
use Rattle.bdb_rescue.specs.of_survey.Salvage.{meta_code, salvaged_page, unless_code}
use Rattle.bdb_rescue.proofs.of_survey.StoredPageLemmas.{count_is, page_is, page_past}
use Rattle.bdb_rescue.proofs.of_survey.of_overflow.WholeLemmas.{page_length}

-- what is so of the metadata of a btree or a recno on which no row holds
pub record IsFitTree (meta : BtreeMeta) : Type 0 where
  pub page : ℕ
  pub flags : are_wrong_flags page meta.flags ≡ false
  pub re_len : meta.re_len < 2 ^ 32

-- of a queue, in a file of this page size
pub record IsFitQueue (size : ℕ) (meta : QueueMeta) : Type 0 where
  pub wide : nat_lt (size - 28) (pad4 (meta.re_len + 1)) ≡ false
  pub re_len : meta.re_len < 2 ^ 32

-- of a btree, a recno or a hash
abbrev pub IsFitMeta : Metadata → Type 0
IsFitMeta (BtreeFields meta) = IsFitTree meta
IsFitMeta (HashFields meta) = meta.flags < 8
IsFitMeta (QueueFields meta) = ⊥

-- A page.

unless_meta : (code : Option ℕ) (page : Page) (fields : Metadata) → unless_code code page ≡ Meta fields → (code ≡ None) × (page ≡ Meta fields)
unless_meta None page fields is = (refl, is)
unless_meta (Some row) page fields is = absurd (cc is)

not_zero : (b : Bool) (page : Page) (fields : Metadata) → elim b [ true ↦ Zero | false ↦ page ] ≡ Meta fields → page ≡ Meta fields
not_zero true page fields is = absurd (cc is)
not_zero false page fields is = is

read_as : (order : Order) (page : List ℕ) (fields : Metadata) → abstract_page order page ≡ Meta fields
    → page_as order page (page_type (byte_at page 25)) ≡ Meta fields
unfolding abstract_page
read_as order page fields is = not_zero (is_zero page) (page_as order page (page_type (byte_at page 25))) fields is

tree_by : (order : Order) (last : ℕ) (page : List ℕ) (meta : BtreeMeta) (t : PageType) → AreBytes page → page_as order page t ≡ Meta (BtreeFields meta)
    → meta_code order last page t ≡ None → IsFitTree meta
unfolding metadata_rows
tree_by order last page meta BtreeMetaPage bytes is none =
    let same : btree_fields order page ≡ meta = cc is in
    let rows : List (Row ℕ) = metadata_rows order page (four_at order page 8) 0 Btree in
    let fail : AllFail rows = none_is_first_row rows none in
    subst IsFitTree same (record {
      page = four_at order page 8;
      flags = fail.1.1.1.1.1.1.1.1.1.0;
      re_len = number_fits order page 80 bytes;
    })
tree_by order last page meta t bytes is none = absurd (cc is)

table_by : (order : Order) (last : ℕ) (page : List ℕ) (meta : HashMeta) (t : PageType) → page_as order page t ≡ Meta (HashFields meta)
    → meta_code order last page t ≡ None → meta.flags < 8
unfolding metadata_rows
table_by order last page meta HashMetaPage is none =
    let same : hash_fields order page ≡ meta = cc is in
    let rows : List (Row ℕ) = metadata_rows order page (four_at order page 8) last HashFile in
    let fail : AllFail rows = none_is_first_row rows none in
    let low : nat_lt 0x07 (four_at order page 48) ≡ false = fail.1.1.1.1.1.1.1.1.1.0 in
    let few : four_at order page 48 < 8 = grind (arith, nat_tests, low) in
    subst (λ (m : HashMeta). m.flags < 8) same few
table_by order last page meta t is none = absurd (cc is)

on_page : (order : Order) (last : ℕ) (page : List ℕ) (fields : Metadata) → salvaged_page order last page ≡ Meta fields
    → (meta_code order last page (page_type (byte_at page 25)) ≡ None) × (abstract_page order page ≡ Meta fields)
unfolding salvaged_page
on_page order last page fields is =
    let inner : Page = unless_code (meta_code order last page (page_type (byte_at page 25))) (abstract_page order page) in
    let form = unless_meta (page_code order (four_at order page 8) page) inner fields is in
    unless_meta (meta_code order last page (page_type (byte_at page 25))) (abstract_page order page) fields form.1

tree_on : (order : Order) (last : ℕ) (page : List ℕ) (meta : BtreeMeta) → AreBytes page → salvaged_page order last page ≡ Meta (BtreeFields meta)
    → IsFitTree meta
tree_on order last page meta bytes is =
    let held = on_page order last page (BtreeFields meta) is in
    tree_by order last page meta (page_type (byte_at page 25)) bytes (read_as order page (BtreeFields meta) held.1) held.0

table_on : (order : Order) (last : ℕ) (page : List ℕ) (meta : HashMeta) → salvaged_page order last page ≡ Meta (HashFields meta) → meta.flags < 8
table_on order last page meta is =
    let held = on_page order last page (HashFields meta) is in
    table_by order last page meta (page_type (byte_at page 25)) (read_as order page (HashFields meta) held.1) held.0

-- Pages of an image.

bytes_of_page : (size : ℕ) (image : List ℕ) (p : ℕ) → AreBytes image → AreBytes (take size (drop (p * size) image))
bytes_of_page size image p bytes = All-take (λ byte. byte < 256) size (drop (p * size) image) (All-drop (λ byte. byte < 256) (p * size) image bytes)

pub tree_fits : (reading : Reading) (p : ℕ) (meta : BtreeMeta) → AreBytes reading.image → page_at (file_in reading) p ≡ Meta (BtreeFields meta)
    → IsFitTree meta
tree_fits reading p meta bytes is =
    let order : Order = reading.guess.order in
    let size : ℕ = reading.guess.page_size in
    elim (cases_lt p (length reading.image / size)) [
      | inl there ↦
          tree_on order (length reading.image / size - 1) (take size (drop (p * size) reading.image)) meta (bytes_of_page size reading.image p bytes)
          (sym (page_is order size reading.image p there) ∙ is)
      | inr past ↦ absurd (cc (sym (page_past order size reading.image p past) ∙ is))
    ]

pub table_fits : (reading : Reading) (p : ℕ) (meta : HashMeta) → page_at (file_in reading) p ≡ Meta (HashFields meta) → meta.flags < 8
table_fits reading p meta is =
    let order : Order = reading.guess.order in
    let size : ℕ = reading.guess.page_size in
    elim (cases_lt p (length reading.image / size)) [
      | inl there ↦
          table_on order (length reading.image / size - 1) (take size (drop (p * size) reading.image)) meta
          (sym (page_is order size reading.image p there) ∙ is)
      | inr past ↦ absurd (cc (sym (page_past order size reading.image p past) ∙ is))
    ]

-- The metadata of a queue.

some_fields : (b : Bool) (fields meta : QueueMeta) → cond b (Some fields) None ≡ Some meta → (b ≡ true) × (fields ≡ meta)
some_fields true fields meta is = (refl, cc is)
some_fields false fields meta is = absurd (cc is)

has_some : (b : Bool) (found : Option QueueMeta) (meta : QueueMeta) → cond b found None ≡ Some meta → found ≡ Some meta
has_some true found meta is = is
has_some false found meta is = absurd (cc is)

is_nothing : (code : Option ℕ) → is_none code ≡ true → code ≡ None
is_nothing None is = refl
is_nothing (Some code) is = absurd (cc is)

first_of : (a b : Bool) → (a || b) ≡ false → a ≡ false
first_of true b none = absurd (cc none)
first_of false b none = refl

-- room for one record at least
has_room : (size wide : ℕ) → (size / wide == 0) ≡ false → nat_lt size wide ≡ false
has_room size wide some =
    let one : 1 ≤ size / wide = grind (arith, nat_tests, some) in
    let fits : size / wide * wide ≤ size = div-mul-le_self size wide in
    let more : 1 * wide ≤ size / wide * wide = mul-le-mul_right wide one in
    let low : wide ≤ size = omega (arith, fits, more) in
    grind (arith, nat_tests, low)

queue_by : (order : Order) (page : List ℕ) (meta : QueueMeta) → AreBytes page → queue_on order page ≡ Some meta → IsFitQueue (length page) meta
queue_by order page meta bytes is =
    let fields = some_fields (is_queue_meta order page) (queue_fields order page) meta is in
    let rows : List (Row ℕ) = field_rows order page 1 0 QueueFile in
    let fail : AllFail rows = none_is_first_row rows (is_nothing (first_row rows) (and_parts _ _ (and_parts _ _ fields.0).0).1) in
    let len : ℕ = (queue_fields order page).re_len in
    let room : (records_per_page (length page) len == 0) ≡ false = first_of _ _ fail.1.1.1.1.1.1.1.0 in
    subst (IsFitQueue (length page)) fields.1 (record {
      wide = has_room (length page - 28) (pad4 (len + 1)) room;
      re_len = number_fits order page 80 bytes;
    })

some_page : (b : Bool) (found : Option QueueMeta) (meta : QueueMeta) → cond b found None ≡ Some meta → b ≡ true
some_page true found meta is = refl
some_page false found meta is = absurd (cc is)

pub queue_fits : (reading : Reading) (meta : QueueMeta) → AreBytes reading.image → is_page_size reading.guess.page_size ≡ true → queue_in reading ≡ Some meta
    → IsFitQueue reading.guess.page_size meta
unfolding queue_in
queue_fits reading meta bytes legal is =
    let size : ℕ = reading.guess.page_size in
    let page : nat_lt 0 (file_in reading).count ≡ true =
    some_page (nat_lt 0 (file_in reading).count) (queue_on reading.guess.order (bytes_at reading 0)) meta is in
    let some : 0 < (file_in reading).count = ltb-true 0 (file_in reading).count page in
    let there : 0 < length reading.image / size = omega (arith, some, count_is reading.guess.order size reading.image) in
    subst (λ n. IsFitQueue n meta) (page_length size reading.image 0 (omega (arith, long_page size legal)) there)
    (queue_by reading.guess.order (bytes_at reading 0) meta (bytes_of_page size reading.image 0 bytes)
    (has_some (nat_lt 0 (file_in reading).count) (queue_on reading.guess.order (bytes_at reading 0)) meta is))
