-- A sound queue as it is salvaged: what is given of it is its list.
use Rattle.std.proofs.Common.{◌≡◌, ℕ, ◌+◌, ◌-◌, ◌*◌, ◌/◌, ◌<◌, ◌≤◌, Bool, true, false, cond, not, List, [], ◌∷◌, length, map, take, drop, Some, None}
use Rattle.std.proofs.Common.{arith, refl, sym, ◌∙◌, ap}
use Rattle.std.specs.Prelude.{◌==◌, ◌&&◌, ◌||◌, is_none, nat_lt, slice_range}
use Rattle.std.specs.List.{flat_map, range_with_len}
use Rattle.std.proofs.lemmas.Bool.{eq-eqb, eqb-true, lt-ltb, not-false}
use Rattle.std.proofs.lemmas.Bool.Decides.{nat_tests}
use Rattle.std.proofs.lemmas.List.{drop-take, take-take}
use Rattle.bdb_repair.specs.of_format.declared.kinds.Order.{Order}
use Rattle.bdb_repair.specs.of_format.declared.metadata.FileKind.TheVariants.{Btree, Hash, Queue as QueueFile}
use Rattle.bdb_repair.specs.of_format.declared.metadata.Head.{Head}
use Rattle.bdb_repair.specs.of_format.declared.metadata.QueueMeta.{QueueMeta}
use Rattle.bdb_repair.specs.of_format.Terms.{File, Meta, NumberKey, Page, QueueFields, byte_at, databases, databases_under, field_rows}
use Rattle.bdb_repair.specs.of_format.Terms.{fields_in, file_kind, file_of, first_row, form_code, four_at, head_of, head_rows, heap_magic, identity_rows}
use Rattle.bdb_repair.specs.of_format.Terms.{is_magic, is_page_size, is_queue, is_queue_type, is_record, is_zero, listed_slot, magic_at, magic_of}
use Rattle.bdb_repair.specs.of_format.Terms.{master_in, metadata_rows, number, number_at, order_of, page_as, page_at, page_bytes, page_records, page_type}
use Rattle.bdb_repair.specs.of_format.Terms.{queue_code, queue_fields, queue_list, record_number, slot_at, type_of, version_of}
use Rattle.bdb_repair.proofs.of_format.FileLemmas.{count_is, last_page, page_is}
use Rattle.bdb_repair.proofs.of_format.GraphLemmas.{typed_page, zero_page}
use Rattle.bdb_repair.proofs.of_format.ListLemmas.{flat_map_same, map_joined}
use Rattle.bdb_repair.proofs.of_format.MemberLemmas.{of_range}
use Rattle.bdb_repair.proofs.of_format.PageLemmas.{zero_byte}
use Rattle.bdb_repair.proofs.of_format.SizeLemmas.{size_bounds}
use Rattle.bdb_repair.proofs.of_format.VerdictLemmas.{none_is_first_row}
use Rattle.bdb_repair.proofs.of_mkfile.of_law_join.HeadLemmas.{first_of_none}
use Rattle.bdb_repair.specs.of_image.Linked.{IsForest}
use Rattle.bdb_repair.specs.of_rescue.Kept.{file_in}
use Rattle.bdb_repair.specs.of_rescue.Text.{numbered_record}
use Rattle.bdb_repair.specs.of_apart.Found.{Found, found, found_beside, only_found}
use Rattle.bdb_repair.specs.of_apart.Queues.{is_queue_meta, is_queue_page, queue_in, queue_on, queue_records, queue_records_on, queue_slot, queue_slots_from}
use Rattle.bdb_repair.specs.of_apart.Read.{read}
use Rattle.bdb_law_apart.specs.Named.{database_of}
use Rattle.bdb_law_apart.proofs.of_apart.of_rescue.of_image.CodeLemmas.{first_page_code, form_queue, identity_fails, not_zero}
use Rattle.bdb_law_apart.proofs.of_apart.of_rescue.of_image.FirstLemmas.{formed_accepted, formed_page}
use Rattle.bdb_law_apart.proofs.of_apart.of_rescue.of_image.HeldLemmas.{own_type}
use Rattle.bdb_law_apart.proofs.of_apart.of_rescue.of_overflow.LinkedLemmas.{legal_size, pages_is}
use Rattle.bdb_law_apart.proofs.of_apart.of_rescue.of_overflow.WholeLemmas.{page_length}
use Rattle.bdb_law_apart.proofs.of_law_whole.PageLemmas.{last_there, same_count}

-- Page 0.

-- what page 0 says of a queue
abbrev pub queue_of : List ℕ → QueueMeta
queue_of image = queue_fields (head_of image).order (page_bytes (head_of image) image 0)

-- what is known of a sound queue
pub record IsQueueRead (image : List ℕ) : Type 0 where
  pub forest : IsForest image
  pub kind : (head_of image).kind ≡ QueueFile

-- its records have bytes
abbrev pub HasLength : List ℕ → Type 0
HasLength image = ((queue_of image).re_len == 0) ≡ false

first_page : (image : List ℕ) → IsQueueRead image → page_at (file_of image) 0 ≡ Meta (QueueFields (queue_of image))
first_page image is =
    let head : Head = head_of image in
    let bytes : List ℕ = page_bytes head image 0 in
    let own : byte_at bytes 25 ≡ type_of head.kind = own_type head bytes (formed_page image 0 is.forest.formed.form (omega arith)) in
    let legal : is_page_size head.page_size ≡ true = legal_size image is.forest in
    let there : 0 < length image / head.page_size = omega (arith, last_there image is.forest) in
    let size : length bytes ≡ head.page_size = page_length head.page_size image 0 (omega (arith, (size_bounds head.page_size legal).0)) there in
    let some : is_zero bytes ≡ false = not_zero bytes head.kind (ap is_page_size size ∙ legal) own in
    page_is image 0 (omega arith)
    ∙ (typed_page head.order bytes some ∙ ap (λ b. page_as head.order bytes (page_type b)) (own ∙ ap type_of is.kind))

-- Its rows.

-- a number of the first page is that of the image
in_first : (order : Order) (image : List ℕ) (size at : ℕ) → at + 4 ≤ size → four_at order (take size (drop (0 * size) image)) at ≡ four_at order image at
unfolding number_at
in_first order image size at low =
    let zero_size : 0 * size ≡ 0 = omega arith in
    let parts : size ≡ at + (size - at) = omega (arith, low) in
    ap (λ n. four_at order (take size (drop n image)) at) zero_size
    ∙ (ap (λ n. number order (take 4 (drop at (take n image)))) parts
    ∙ (ap (λ bytes. number order (take 4 bytes)) (drop-take at (size - at) image)
    ∙ ap (number order) (take-take 4 (size - at) (drop at image) (omega (arith, low)))))

queue_magic : (btree hash queue heap : Bool) → (btree || hash || queue || heap) ≡ true → heap ≡ false
    → cond btree Btree (cond hash Hash QueueFile) ≡ QueueFile → queue ≡ true
queue_magic true hash queue heap magic none kind = absurd (cc kind)
queue_magic false true queue heap magic none kind = absurd (cc kind)
queue_magic false false true heap magic none kind = refl
queue_magic false false false true magic none kind = absurd (cc none)
queue_magic false false false false magic none kind = absurd (cc magic)

-- what the rows of the file say of page 0
record IsHead (image : List ℕ) : Type 0 where
  magic : (four_at (head_of image).order image 12 == magic_of QueueFile) ≡ true
  version : (four_at (head_of image).order image 16 == version_of QueueFile) ≡ true

head_is : (image : List ℕ) → IsQueueRead image → IsHead image
unfolding head_of head_rows
head_is image is =
    let fail = none_is_first_row (head_rows image) (formed_accepted image (head_of image) is.forest.formed).accepted in
    let kind : file_kind (magic_at image) ≡ QueueFile = is.kind in
    record {
      magic = queue_magic (magic_at image == magic_of Btree) (magic_at image == magic_of Hash) (magic_at image == magic_of QueueFile)
          (magic_at image == heap_magic) (not-false (is_magic (magic_at image)) fail.1.0) fail.1.1.0 kind;
      version = ap (λ k. four_at (order_of image) image 16 == version_of k) (sym kind)
          ∙ not-false (four_at (order_of image) image 16 == version_of (file_kind (magic_at image))) fail.1.1.1.0;
    }

no_row : (order : Order) (page : List ℕ) (last : ℕ) → first_row (metadata_rows order page 0 last QueueFile) ≡ None
    → (four_at order page 12 == magic_of QueueFile) ≡ true → (four_at order page 16 == version_of QueueFile) ≡ true
    → first_row (field_rows order page 1 0 QueueFile) ≡ None
unfolding metadata_rows
no_row order page last none magic version =
    let fail = none_is_first_row (metadata_rows order page 0 last QueueFile) none in
    let own = fail.1.1.1.1 in
    first_of_none (field_rows order page 1 0 QueueFile)
    (ap not magic, (ap not version, own))

all_so : (a b c : Bool) → a ≡ true → b ≡ true → c ≡ true → (a && b && c) ≡ true
all_so a b c one two three = rw (one, two, three) refl

pub found_queue : (image : List ℕ) → IsQueueRead image → HasLength image → queue_in (read image) ≡ Some (queue_of image)
unfolding queue_in
found_queue image is full =
    let head : Head = head_of image in
    let bytes : List ℕ = page_bytes head image 0 in
    let form : form_code head 0 bytes ≡ None = formed_page image 0 is.forest.formed.form (omega arith) in
    let own : byte_at bytes 25 ≡ type_of QueueFile = own_type head bytes form ∙ ap type_of is.kind in
    let legal : is_page_size head.page_size ≡ true = legal_size image is.forest in
    let size = size_bounds head.page_size legal in
    let said : IsHead image = head_is image is in
    let rows : first_row (metadata_rows head.order bytes 0 head.last QueueFile) ≡ None =
    ap (λ k. first_row (metadata_rows head.order bytes 0 head.last k)) (sym is.kind) ∙ (sym (first_page_code head bytes) ∙ form) in
    let none : first_row (field_rows head.order bytes 1 0 QueueFile) ≡ None =
    no_row head.order bytes head.last rows
    (ap (λ n. n == magic_of QueueFile) (in_first head.order image head.page_size 12 (omega (arith, size.0))) ∙ said.magic)
    (ap (λ n. n == version_of QueueFile) (in_first head.order image head.page_size 16 (omega (arith, size.0))) ∙ said.version) in
    let some : nat_lt 0 (queue_of image).re_len ≡ true = grind (arith, nat_tests, full) in
    let all : is_queue_meta head.order bytes ≡ true =
    all_so (byte_at bytes 25 == type_of QueueFile) (is_none (first_row (field_rows head.order bytes 1 0 QueueFile))) (nat_lt 0 (queue_of image).re_len)
    (eq-eqb (byte_at bytes 25) (type_of QueueFile) own) (ap is_none none) some in
    let there : nat_lt 0 (file_in (read image)).count ≡ true =
    lt-ltb 0 (file_in (read image)).count (omega (arith, same_count image, count_is image, pages_is image, last_there image is.forest)) in
    ap (λ b. cond b (queue_on head.order bytes) None) there ∙ ap (λ b. cond b (Some (queue_of image)) None) all

-- what is found, and what the file has

abbrev pub queue_db : List ℕ → Found
queue_db image = only_found (QueueFields (queue_of image))

pub queue_found : (image : List ℕ) → IsQueueRead image → HasLength image → found (read image) ≡ queue_db image ∷ []
unfolding found
queue_found image is full = ap (found_beside (file_in (read image))) (found_queue image is full)

pub queue_database : (image : List ℕ) → IsQueueRead image
    → databases (file_of image) ≡ database_of (queue_db image) ∷ []
unfolding databases
queue_database image is =
    let page : page_at (file_of image) 0 ≡ Meta (QueueFields (queue_of image)) = first_page image is in
    ap (databases_under (file_of image)) (ap master_in page)
    ∙ ap (λ (p : Page). map (λ fields. record { name = None; fields = fields }) (fields_in p)) page

-- Records.

slot_is : (meta : QueueMeta) (p : ℕ) (records : List ℕ) (slot : ℕ) → map numbered_record (queue_slot meta p records slot) ≡ listed_slot meta p records slot
slot_is meta p records slot = by_test (is_record meta p records slot)
  where
    at : ℕ
    at = record_number meta p slot

    value : List ℕ
    value = slice_range records (slot_at meta slot + 1) (slot_at meta slot + 1 + meta.re_len)

    by_test : (b : Bool) → map numbered_record (cond b ((at, value) ∷ []) []) ≡ cond b ((NumberKey at, value) ∷ []) []
    by_test true = refl
    by_test false = refl

slots_are : (meta : QueueMeta) (p : ℕ) (records : List ℕ)
    → map numbered_record (queue_slots_from meta p records 0) ≡ flat_map (listed_slot meta p records) (range_with_len 0 meta.per_page)
slots_are meta p records =
    let all : meta.per_page - 0 ≡ meta.per_page = omega arith in
    map_joined numbered_record (queue_slot meta p records) (range_with_len 0 (meta.per_page - 0))
    ∙ (flat_map_same (λ slot. map numbered_record (queue_slot meta p records slot)) (listed_slot meta p records) (range_with_len 0 (meta.per_page - 0))
    (λ slot at. slot_is meta p records slot)
    ∙ ap (λ n. flat_map (listed_slot meta p records) (range_with_len 0 n)) all)

-- a page of records: no row of its number and type holds
record IsRecords (order : Order) (p : ℕ) (bytes : List ℕ) : Type 0 where
  number_is : (four_at order bytes 8 == p) ≡ true
  type_is : is_queue_type (byte_at bytes 25) ≡ true

identified : (order : Order) (p : ℕ) (bytes : List ℕ) → is_zero bytes ≡ false → queue_code order p bytes ≡ None → IsRecords order p bytes
unfolding queue_code
identified order p bytes some none =
    let fail =
    none_is_first_row (identity_rows order bytes p is_queue_type)
    (identity_fails (is_zero bytes) (first_row (identity_rows order bytes p is_queue_type)) None some none) in
    record {
      number_is = not-false (four_at order bytes 8 == p) fail.0;
      type_is = not-false (is_queue_type (byte_at bytes 25)) fail.1.0;
    }

on_page : (image : List ℕ) (p : ℕ) → IsQueueRead image → 1 ≤ p → p ≤ (head_of image).last
    → map numbered_record (queue_records_on (read image) (queue_of image) p) ≡ page_records (queue_of image) p (page_at (file_of image) p)
on_page image p is some low = by_zero (is_zero bytes) refl
  where
    head : Head
    head = head_of image

    bytes : List ℕ
    bytes = page_bytes head image p

    meta : QueueMeta
    meta = queue_of image

    by_zero : (b : Bool) → is_zero bytes ≡ b
        → map numbered_record (queue_records_on (read image) meta p) ≡ page_records meta p (page_at (file_of image) p)
    by_zero true zeros =
        let none : is_queue_page head.order p bytes ≡ false =
        ap (λ n. is_queue_type n && four_at head.order bytes 8 == p) (zero_byte bytes 25 zeros) in
        ap (λ b. map numbered_record (cond b (queue_slots_from meta p (drop 28 bytes) 0) [])) none
        ∙ sym (ap (page_records meta p) (page_is image p low ∙ zero_page head.order bytes zeros))
    by_zero false written =
        let form : form_code head p bytes ≡ None = formed_page image p is.forest.formed.form low in
        let own : IsRecords head.order p bytes = identified head.order p bytes written (sym (form_queue head p bytes (omega arith) is.kind) ∙ form) in
        let there : is_queue_page head.order p bytes ≡ true =
        ap (λ b. b && four_at head.order bytes 8 == p) own.type_is ∙ own.number_is in
        let byte : byte_at bytes 25 ≡ 11 = eqb-true (byte_at bytes 25) 11 own.type_is in
        ap (λ b. map numbered_record (cond b (queue_slots_from meta p (drop 28 bytes) 0) [])) there
        ∙ (slots_are meta p (drop 28 bytes)
        ∙ sym (ap (page_records meta p) (page_is image p low
        ∙ (typed_page head.order bytes written ∙ ap (λ b. page_as head.order bytes (page_type b)) byte))))

-- a queue goes to the end of its file
last_is : (image : List ℕ) → (head_of image).kind ≡ QueueFile → (head_of image).last ≡ (head_of image).pages - 1
unfolding head_of
last_is image kind =
    ap (λ k. cond (is_queue k) ((head_of image).pages - 1) (four_at (order_of image) image 32)) kind

pub queue_given : (image : List ℕ) → IsQueueRead image
    → map numbered_record (queue_records (read image) (queue_of image)) ≡ queue_list (file_of image) (queue_of image)
unfolding queue_records queue_list
queue_given image is =
    let meta : QueueMeta = queue_of image in
    let file : File = file_of image in
    let count : (file_in (read image)).count - 1 ≡ file.last =
    omega (arith, same_count image, last_is image is.kind, count_is image, last_page image) in
    map_joined numbered_record (queue_records_on (read image) meta) (range_with_len 1 ((file_in (read image)).count - 1))
    ∙ (ap (λ n. flat_map (λ p. map numbered_record (queue_records_on (read image) meta p)) (range_with_len 1 n)) count
    ∙ flat_map_same (λ p. map numbered_record (queue_records_on (read image) meta p)) (λ p. page_records meta p (page_at file p)) (range_with_len 1 file.last)
    (λ p at. let within = of_range 1 file.last p at in on_page image p is within.0 (omega (arith, within.1, last_page image))))
