-- The head of an image whose page 0 is metadata of a kind, and the rows of such a page.
use Rattle.std.proofs.Common.{◌≡◌, ℕ, zero, suc, ◌+◌, ◌*◌, ◌%◌, ◌<◌, ◌≤◌, ◌||◌, ◌&&◌, Bool, true, false, List, [], ◌∷◌, length, Option, None, Some, arith, refl}
use Rattle.std.proofs.Common.{◌∙◌, ap, ◌==◌, nat_le, nat_lt, not}
use Rattle.std.proofs.Math.Nat.{mul-div_cancel, mul-mod_left}
use Rattle.std.proofs.lemmas.Bool.{and_right, eq-eqb, le-ltb, lt-leb, ne_eqb}
use Rattle.bdb_graph.specs.of_format.declared.kinds.Order.{Order}
use Rattle.bdb_graph.specs.of_format.declared.metadata.FileKind.{FileKind}
use Rattle.bdb_graph.specs.of_format.declared.metadata.FileKind.TheVariants.{Btree, Hash, Queue}
use Rattle.bdb_graph.specs.of_format.declared.metadata.Head.{Head}
use Rattle.bdb_graph.specs.of_format.Terms.{Row, byte_at, file_kind, first_row, form_code, four_at, has_bit, head_of, head_rows, heap_magic, is_magic}
use Rattle.bdb_graph.specs.of_format.Terms.{is_page_size, is_past, is_queue, last_page, magic_at, magic_of, metadata_rows, order_of, page_code, pages_of}
use Rattle.bdb_graph.specs.of_format.Terms.{type_of, version_of}
use Rattle.bdb_graph.proofs.of_format.VerdictLemmas.{AllFail, none_is_first_row}
use Rattle.bdb_graph.proofs.of_format.SizeLemmas.{size_bounds}
use Rattle.bdb_graph.proofs.of_image.CodeLemmas.{code_by, first_page_code, tree_metadata}
use Rattle.bdb_graph.specs.of_meta.RowGroups.{flag_rows}
use Rattle.bdb_law_join.proofs.CommonLemmas.{ReadsAs}

-- no row is the first that holds where none does
pub first_of_none : (rows : List (Row ℕ)) → AllFail rows → first_row rows ≡ None
first_of_none [] fail = refl
first_of_none (row ∷ rows) fail = rw (fail.0) (first_of_none rows fail.1)

-- Kinds.

kind_of_magic : (kind : FileKind) → file_kind (magic_of kind) ≡ kind
kind_of_magic Btree = refl
kind_of_magic Hash = refl
kind_of_magic Queue = refl

has_magic : (kind : FileKind) → not (is_magic (magic_of kind)) ≡ false
has_magic Btree = refl
has_magic Hash = refl
has_magic Queue = refl

no_heap : (kind : FileKind) → (magic_of kind == heap_magic) ≡ false
no_heap Btree = refl
no_heap Hash = refl
no_heap Queue = refl

-- The head.

-- whole pages with metadata on page 0 that says so
pub record IsImage (head : Head) (image : List ℕ) : Type 0 where
  pub reads : ReadsAs head 0 image
  pub legal : is_page_size head.page_size ≡ true
  pub long : length image ≡ head.pages * head.page_size
  pub whole : head.last + 1 ≡ head.pages

magic_is : (head : Head) (image : List ℕ) → IsImage head image → magic_at image ≡ magic_of head.kind
magic_is head image is = ap (λ o. four_at o image 12) is.reads.order_is ∙ is.reads.magic

kind_is : (head : Head) (image : List ℕ) → IsImage head image → file_kind (magic_at image) ≡ head.kind
kind_is head image is = ap file_kind (magic_is head image is) ∙ kind_of_magic head.kind

size_is : (head : Head) (image : List ℕ) → IsImage head image → four_at (order_of image) image 20 ≡ head.page_size
size_is head image is = ap (λ o. four_at o image 20) is.reads.order_is ∙ is.reads.size_is

count_is : (head : Head) (image : List ℕ) → IsImage head image → pages_of image ≡ head.pages
count_is head image is = grind (arith, size_bounds, size_is, mul-div_cancel)

last_is : (head : Head) (image : List ℕ) (kind : FileKind) → IsImage head image → last_page kind image ≡ head.last
last_is head image Btree is = ap (λ o. four_at o image 32) is.reads.order_is ∙ is.reads.last_is
last_is head image Hash is = ap (λ o. four_at o image 32) is.reads.order_is ∙ is.reads.last_is
last_is head image Queue is = omega (arith, is.whole, count_is head image is)

same_head : (order : Order) (size : ℕ) (kind : FileKind) (last pages : ℕ) (b : Head) → order ≡ b.order → size ≡ b.page_size → kind ≡ b.kind
    → last ≡ b.last → pages ≡ b.pages → record { order = order; page_size = size; kind = kind; last = last; pages = pages } ≡ b
same_head order size kind last pages b one two three four five = rw (one, two, three, four, five)

-- page 0 says the head
pub image_head : (head : Head) (image : List ℕ) → IsImage head image → head_of image ≡ head
unfolding head_of
image_head head image is = grind (arith, same_head, size_is, kind_is, last_is, count_is)

no_past : (kind : FileKind) (pages last : ℕ) → last < pages → (not (is_queue kind) && nat_le pages last) ≡ false
no_past Btree pages last low = lt-leb pages last low
no_past Hash pages last low = lt-leb pages last low
no_past Queue pages last low = refl

long_enough : (n size whole : ℕ) → 1 ≤ n → 512 ≤ size → whole ≡ n * size → 512 ≤ whole
long_enough zero size whole some least is = absurd (omega arith)
long_enough (suc n) size whole some least is = omega arith

-- no row of page 0 that speaks of the file holds
pub head_accepted : (head : Head) (image : List ℕ) → IsImage head image → first_row (head_rows image) ≡ None
unfolding head_rows
head_accepted head image is =
    first_of_none (head_rows image) (short, (magic, (heap, (version, (size, (large, (plain, (sum, (parted, (ragged, (past, tt)))))))))))
  where
    bounds : (512 ≤ head.page_size) × (head.page_size ≤ 32768)
    bounds = size_bounds head.page_size is.legal

    short : nat_lt (length image) 512 ≡ false
    short = le-ltb (length image) 512 (long_enough head.pages head.page_size (length image) (omega (arith, is.whole)) bounds.0 is.long)

    magic : not (is_magic (magic_at image)) ≡ false
    magic = ap (λ m. not (is_magic m)) (magic_is head image is) ∙ has_magic head.kind

    heap : (magic_at image == heap_magic) ≡ false
    heap = ap (λ m. m == heap_magic) (magic_is head image is) ∙ no_heap head.kind

    version : not (four_at (order_of image) image 16 == version_of (file_kind (magic_at image))) ≡ false
    version =
        ap (λ k. not (four_at (order_of image) image 16 == version_of k)) (kind_is head image is)
        ∙ (ap (λ o. not (four_at o image 16 == version_of head.kind)) is.reads.order_is
        ∙ ap not (eq-eqb (four_at head.order image 16) (version_of head.kind) is.reads.version))

    size : not (is_page_size (four_at (order_of image) image 20) || four_at (order_of image) image 20 == 65536) ≡ false
    size = ap (λ s. not (is_page_size s || s == 65536)) (size_is head image is) ∙ ap (λ b. not (b || head.page_size == 65536)) is.legal

    large : (four_at (order_of image) image 20 == 65536) ≡ false
    large = ap (λ s. s == 65536) (size_is head image is) ∙ ne_eqb head.page_size 65536 (λ same. omega (arith, bounds.1, same))

    plain : not (byte_at image 24 == 0) ≡ false
    plain = ap (λ b. not (b == 0)) is.reads.plain

    sum : has_bit (byte_at image 26) 0x01 ≡ false
    sum = ap (λ b. has_bit b 0x01) is.reads.flags

    parted : (has_bit (byte_at image 26) 0x06 || not (four_at (order_of image) image 36 == 0)) ≡ false
    parted =
        ap (λ b. has_bit b 0x06 || not (four_at (order_of image) image 36 == 0)) is.reads.flags
        ∙ (ap (λ o. not (four_at o image 36 == 0)) is.reads.order_is ∙ ap (λ n. not (n == 0)) is.reads.partitions)

    ragged : not (length image % four_at (order_of image) image 20 == 0) ≡ false
    ragged =
        ap (λ s. not (length image % s == 0)) (size_is head image is)
        ∙ (ap (λ n. not (n % head.page_size == 0)) is.long ∙ ap (λ n. not (n == 0)) (mul-mod_left head.pages head.page_size))

    past : is_past (file_kind (magic_at image)) image ≡ false
    past =
        ap (λ k. is_past k image) (kind_is head image is)
        ∙ (ap (λ n. not (is_queue head.kind) && nat_le n (last_page head.kind image)) (count_is head image is)
        ∙ (ap (λ n. not (is_queue head.kind) && nat_le head.pages n) (last_is head image head.kind is)
        ∙ no_past head.kind head.pages head.last (omega (arith, is.whole))))

-- Page 0.

-- btree metadata of a page of this number, without a row of flags
pub record IsBtreePage (head : Head) (number : ℕ) (page : List ℕ) (flags : ℕ) : Type 0 where
  pub reads : ReadsAs head number page
  pub kind : head.kind ≡ Btree
  pub legal : is_page_size head.page_size ≡ true
  pub long : length page ≡ head.page_size
  pub flags_are : four_at head.order page 48 ≡ flags
  pub none : first_row (flag_rows number flags) ≡ None

page_type_is : (head : Head) (number : ℕ) (page : List ℕ) (flags : ℕ) → IsBtreePage head number page flags → byte_at page 25 ≡ 9
page_type_is head number page flags is = is.reads.type ∙ ap type_of is.kind

-- no row of metadata holds for it
rows_accepted : (head : Head) (number : ℕ) (page : List ℕ) (flags : ℕ) → IsBtreePage head number page flags
    → first_row (metadata_rows head.order page number head.last Btree) ≡ None
unfolding metadata_rows
rows_accepted head number page flags is = grind (arith, first_of_none, AllFail, none_is_first_row, eq-eqb, page_type_is, and_right, size_is)

pub none_by : (zeros : Bool) (identity typed : Option ℕ) → identity ≡ None → typed ≡ None → code_by zeros identity typed ≡ None
none_by true identity typed one two = refl
none_by false None typed one two = two
none_by false (Some code) typed one two = absurd cc

-- above page 0 its number and its type are right
code_accepted : (head : Head) (number : ℕ) (page : List ℕ) (flags : ℕ) → IsBtreePage head number page flags → page_code head.order number page ≡ None
unfolding page_code
code_accepted head number page flags is = grind (arith, page_type_is, none_by, first_of_none, eq-eqb)

-- no row of form holds for btree metadata
pub page_accepted : (head : Head) (number : ℕ) (page : List ℕ) (flags : ℕ) → IsBtreePage head number page flags → form_code head number page ≡ None
page_accepted head zero page flags is = grind (arith, first_page_code, rows_accepted)
page_accepted head (suc n) page flags is =
    tree_metadata head (suc n) page Btree (omega arith) (λ queue. no_queue is.kind queue) (code_accepted head (suc n) page flags is)
    (ap is_page_size is.long ∙ is.legal) (page_type_is head (suc n) page flags is)
    ∙ rows_accepted head (suc n) page flags is
  where
    no_queue : head.kind ≡ Btree → head.kind ≡ Queue → ⊥
    no_queue btree queue = cc
