-- The class of a page.
use Rattle.std.proofs.Common.{◌≡◌, ◌≢◌, ◌∙◌, inl, inr, ℕ, zero, suc, ◌<◌, ◌≤◌, true, false, List, [], ◌∷◌, length, refl, sym, ap, arith}
use Rattle.std.specs.Prelude.{◌==◌, ◌&&◌, ◌||◌, cond, nat_lt, not, Bool, Option, Some, None}
use Rattle.std.specs.List.{list_any}
use Rattle.std.proofs.lemmas.Bool.{cases_Bool, eq-eqb, eqb-true}
use Rattle.std.proofs.lemmas.Bool.Decides.{nat_tests}
use Rattle.bdb_law_turned.specs.of_format.declared.kinds.Order.{Order}
use Rattle.bdb_law_turned.specs.of_format.declared.metadata.FileKind.{FileKind}
use Rattle.bdb_law_turned.specs.of_format.declared.metadata.FileKind.TheVariants.{Btree, Hash as HashFile, Queue as QueueFile}
use Rattle.bdb_law_turned.specs.of_format.declared.metadata.Head.{Head}
use Rattle.bdb_law_turned.specs.of_form.declared.view.PageView.{PageView}
use Rattle.bdb_law_turned.specs.of_form.declared.view.PageView.TheVariants.{Zero as ZeroView, Free as FreeView, Meta as MetaView, Leaf as LeafView, Internal as InternalView}
use Rattle.bdb_law_turned.specs.of_form.declared.view.PageView.TheVariants.{RecnoLeaf as RecnoLeafView, RecnoInternal as RecnoInternalView}
use Rattle.bdb_law_turned.specs.of_form.declared.view.PageView.TheVariants.{DupLeaf as DupLeafView}
use Rattle.bdb_law_turned.specs.of_form.declared.view.PageView.TheVariants.{Hash as HashView, Overflow as OverflowView, Queue as QueueView}
use Rattle.bdb_law_turned.specs.of_form.Seen.{header_seen, page_seen}
use Rattle.bdb_law_turned.specs.of_format.declared.pages.Header.{Header}
use Rattle.bdb_law_turned.proofs.of_format.FileLemmas.{kind_is, last_page, page_is}
use Rattle.bdb_law_turned.proofs.of_format.GraphLemmas.{type_fits, typed_page, zero_page}
use Rattle.bdb_law_turned.proofs.of_format.PageLemmas.{later_type, some_type, zero_byte}
use Rattle.bdb_law_turned.proofs.of_format.TypeLemmas.{one_type}
use Rattle.bdb_law_turned.proofs.of_format.VerdictLemmas.{no_rows_at, none_within}
use Rattle.bdb_law_turned.specs.of_format.Terms.{File, Page, abstract_page, byte_at, file_of, form_code, head_of, header_in, is_anchor, is_anchor_in}
use Rattle.bdb_law_turned.specs.of_format.Terms.{is_hash_meta, is_meta, is_queue, is_reserve, is_spare, is_tree_type, is_zero, may_have_type, owners}
use Rattle.bdb_law_turned.specs.of_format.Terms.{ownership_faults, ownership_rows, page_as, page_at, page_bytes, page_type, type_of}
use Rattle.bdb_law_turned.proofs.of_image.FirstLemmas.{formed_page}
use Rattle.bdb_law_turned.proofs.of_image.HeldLemmas.{own_type}
use Rattle.bdb_law_turned.specs.of_image.Linked.{IsForest}
use Rattle.bdb_stat.specs.Classes.{class_by_type, class_of, is_class, same_class, tree_level}
use Rattle.bdb_stat.specs.declared.class.Class.{Class}
use Rattle.bdb_stat.specs.declared.class.Class.TheVariants.{Internal, Leaf, Meta, Queue, Reserve, Tail}

-- The class by what decides it.

pub past_last : (file : File) (p : ℕ) → file.last < p → Some Tail ≡ class_of file p
unfolding class_of
past_last file p above = let is : nat_lt file.last p ≡ true = grind (arith, nat_tests) in rw is refl

pub by_meta : (file : File) (p : ℕ) → p ≤ file.last → is_meta (page_at file p) ≡ true → Some Meta ≡ class_of file p
unfolding class_of
by_meta file p low meta = let is : nat_lt file.last p ≡ false = grind (arith, nat_tests) in rw (is, meta) refl

pub by_queue : (file : File) (p : ℕ) → p ≤ file.last → is_meta (page_at file p) ≡ false → is_queue file.kind ≡ true → Some Queue ≡ class_of file p
unfolding class_of
by_queue file p low meta queue = let is : nat_lt file.last p ≡ false = grind (arith, nat_tests) in rw (is, meta, queue) refl

pub by_reserve : (file : File) (p : ℕ) → p ≤ file.last → is_meta (page_at file p) ≡ false → is_queue file.kind ≡ false → is_reserve file p ≡ true
    → Some Reserve ≡ class_of file p
unfolding class_of
by_reserve file p low meta queue reserve = let is : nat_lt file.last p ≡ false = grind (arith, nat_tests) in rw (is, meta, queue, reserve) refl

pub by_type : (file : File) (p : ℕ) (class : Class) → p ≤ file.last → is_meta (page_at file p) ≡ false → is_queue file.kind ≡ false → is_reserve file p ≡ false
    → Some class ≡ class_by_type (page_at file p) → Some class ≡ class_of file p
unfolding class_of
by_type file p class low meta queue reserve typed =
    let is : nat_lt file.last p ≡ false = grind (arith, nat_tests) in rw (is, meta, queue, reserve) typed

-- Page 0 is metadata.

meta_type : (kind : FileKind) (order : Order) (page : List ℕ) (byte : ℕ) → byte ≡ type_of kind → is_meta (page_as order page (page_type byte)) ≡ true
meta_type Btree order page byte is = ap (λ b. is_meta (page_as order page (page_type b))) is
meta_type HashFile order page byte is = ap (λ b. is_meta (page_as order page (page_type b))) is
meta_type QueueFile order page byte is = ap (λ b. is_meta (page_as order page (page_type b))) is

pub first_is_meta : (image : List ℕ) → IsForest image → is_meta (page_at (file_of image) 0) ≡ true
first_is_meta image forest =
    let head : Head = head_of image in
    let page : List ℕ = page_bytes head image 0 in
    let type : byte_at page 25 ≡ type_of head.kind = own_type head page (formed_page image 0 forest.formed.form (omega arith)) in
    ap is_meta (page_is image 0 (omega arith))
    ∙ elim (cases_Bool (is_zero page)) [
      | inl zeros ↦ absurd (omega (arith, type, zero_byte page 25 zeros, some_type head.kind))
      | inr some ↦ ap is_meta (typed_page head.order page some) ∙ meta_type head.kind head.order page (byte_at page 25) type
    ]

pub above_first : (image : List ℕ) (p : ℕ) → IsForest image → is_meta (page_at (file_of image) p) ≡ false → 1 ≤ p
above_first image zero forest none = absurd (let meta : is_meta (page_at (file_of image) 0) ≡ true = first_is_meta image forest in cc)
above_first image (suc p) forest none = omega arith

-- The type of a page of another file than a queue gives a class.

abbrev HasClass : Order → List ℕ → Option ℕ → Type 0
HasClass order page None = Unit {0}
HasClass order page (Some byte) = class_by_type (page_as order page (page_type byte)) ≢ None

of_meta : (kind : FileKind) (order : Order) (page : List ℕ) (byte : ℕ) → is_queue kind ≡ false → byte ≡ type_of kind
    → class_by_type (page_as order page (page_type byte)) ≢ None
of_meta Btree order page byte other is none = let same = sym (ap (λ b. class_by_type (page_as order page (page_type b))) is) ∙ none in cc
of_meta HashFile order page byte other is none = let same = sym (ap (λ b. class_by_type (page_as order page (page_type b))) is) ∙ none in cc
of_meta QueueFile order page byte other is none = absurd cc

of_type : (kind : FileKind) (number : ℕ) (order : Order) (page : List ℕ) (byte : ℕ) → is_queue kind ≡ false → may_have_type kind number byte ≡ true
    → class_by_type (page_as order page (page_type byte)) ≢ None
of_type kind zero order page byte other may = of_meta kind order page byte other (eqb-true byte (type_of kind) may)
of_type kind (suc number) order page byte other may =
    let tree : is_tree_type byte ≡ true = sym (later_type kind number byte ∙ ap (λ b. cond b (byte == 11) (is_tree_type byte)) other) ∙ may in
    one_type (HasClass order page) (0 ∷ 2 ∷ 3 ∷ 4 ∷ 5 ∷ 6 ∷ 7 ∷ 8 ∷ 9 ∷ 12 ∷ 13 ∷ []) byte
    (λ is. cc, (λ is. cc, (λ is. cc, (λ is. cc, (λ is. cc, (λ is. cc, (λ is. cc, (λ is. cc, (λ is. cc, (λ is. cc, (λ is. cc, tt))))))))))) tree

pub has_class : (image : List ℕ) (p : ℕ) → IsForest image → p ≤ (file_of image).last → is_queue (file_of image).kind ≡ false
    → class_by_type (page_at (file_of image) p) ≢ None
has_class image p forest low other none =
    let head : Head = head_of image in
    let page : List ℕ = page_bytes head image p in
    let inside : p ≤ head.last = omega (arith, last_page image) in
    let form : form_code head p page ≡ None = formed_page image p forest.formed.form inside in
    let kind : is_queue head.kind ≡ false = sym (ap is_queue (kind_is image)) ∙ other in
    let there : class_by_type (abstract_page head.order page) ≡ None = sym (ap class_by_type (page_is image p inside)) ∙ none in
    elim (cases_Bool (is_zero page)) [
      | inl zeros ↦ let zero' = sym (ap class_by_type (zero_page head.order page zeros)) ∙ there in cc
      | inr some ↦
          of_type head.kind p head.order page (byte_at page 25) kind (type_fits head p page some form)
          (sym (ap class_by_type (typed_page head.order page some)) ∙ there)
    ]

-- A page that nothing names, and that isn't metadata, is a reserve, or there is a fault.

not_anchor : (kind : FileKind) (page : Page) → is_queue kind ≡ false → is_meta page ≡ false → is_anchor_in kind page ≡ false
not_anchor Btree page other none = none
not_anchor HashFile page other none = none
not_anchor QueueFile page other none = absurd cc

no_owner_fault : (anchor reserve unowned : Bool) → anchor ≡ false → unowned ≡ true → (not anchor && not reserve && unowned) ≡ false → reserve ≡ true
no_owner_fault anchor reserve unowned none nothing passed = grind (arith, nat_tests)

pub unowned_is_reserve : (image : List ℕ) (p : ℕ) → IsForest image → 1 ≤ p → p ≤ (file_of image).last → is_queue (file_of image).kind ≡ false
    → is_meta (page_at (file_of image) p) ≡ false → length (owners (file_of image) p) ≡ 0 → is_reserve (file_of image) p ≡ true
unfolding ownership_faults is_anchor
unowned_is_reserve image p forest low high other none nothing =
    let file : File = file_of image in
    let no_fault : ownership_faults file ≡ [] = none_within 3 3 image 4 forest.linked (omega arith) (omega arith) in
    let fail = no_rows_at 4 1 file.last p (ownership_rows file) no_fault low (omega arith) in
    no_owner_fault (is_anchor file p) (is_reserve file p) (length (owners file p) == 0) (not_anchor file.kind (page_at file p) other none)
    (eq-eqb (length (owners file p)) 0 nothing) fail.0

-- so a page that a table may hold is one where nothing names it
pub reserve_is : (image : List ℕ) (p : ℕ) → IsForest image → 1 ≤ p → p ≤ (file_of image).last → is_queue (file_of image).kind ≡ false
    → is_meta (page_at (file_of image) p) ≡ false → is_spare (page_at (file_of image) p) ≡ true → (length (owners (file_of image) p) == 0)
    ≡ is_reserve (file_of image) p
unfolding is_reserve
reserve_is image p forest low high other none spare =
    elim (cases_Bool (length (owners (file_of image) p) == 0)) [
      | inl nothing ↦
          nothing ∙ sym (unowned_is_reserve image p forest low high other none (eqb-true (length (owners (file_of image) p)) 0 nothing))
      | inr some ↦ some ∙ no_reserve (list_any is_hash_meta (file_of image).pages) (is_spare (page_at (file_of image) p)) _ some
    ]
  where
    no_reserve : (table spare unowned : Bool) → unowned ≡ false → false ≡ (table && unowned && spare)
    no_reserve table spare unowned some = grind (arith, nat_tests)

-- and another page is none
pub no_spare : (file : File) (p : ℕ) → is_spare (page_at file p) ≡ false → false ≡ is_reserve file p
unfolding is_reserve
no_spare file p other = no_reserve (list_any is_hash_meta file.pages) (length (owners file p) == 0) (is_spare (page_at file p)) other
  where
    no_reserve : (table unowned spare : Bool) → spare ≡ false → false ≡ (table && unowned && spare)
    no_reserve table unowned spare other = grind (arith, nat_tests)

-- A page of a tree.

-- a class of pages of trees
abbrev pub of_tree : Class → Bool
of_tree class = same_class Internal class || same_class Leaf class

record IsTyped (file : File) (p : ℕ) (class : Class) : Type 0 where
  pub inside : p ≤ file.last
  pub typed : class_by_type (page_at file p) ≡ Some class

typed_by : (tail meta queue reserve : Bool) (typed : Option Class) (class : Class)
    → Some class ≡ cond {A = Option Class} tail (Some Tail) (cond {A = Option Class} meta (Some Meta)
    (cond {A = Option Class} queue (Some Queue) (cond {A = Option Class} reserve (Some Reserve) typed)))
    → of_tree class ≡ true → (tail ≡ false) × (typed ≡ Some class)
typed_by true meta queue reserve typed class is tree = absurd (let same : class ≡ Tail = cc in let other : of_tree Tail ≡ true = ap of_tree (sym same)
    ∙ tree in cc)
typed_by false true queue reserve typed class is tree = absurd (let same : class ≡ Meta = cc in let other : of_tree Meta ≡ true = ap of_tree (sym same)
    ∙ tree in cc)
typed_by false false true reserve typed class is tree = absurd (let same : class ≡ Queue = cc in let other : of_tree Queue ≡ true = ap of_tree (sym same)
    ∙ tree in cc)
typed_by false false false true typed class is tree = absurd (let same : class ≡ Reserve = cc in let other : of_tree Reserve ≡ true = ap of_tree (sym same)
    ∙ tree in cc)
typed_by false false false false typed class is tree = (refl, sym is)

is_typed : (file : File) (p : ℕ) (class : Class) → Some class ≡ class_of file p → of_tree class ≡ true → IsTyped file p class
unfolding class_of
is_typed file p class is tree =
    let parts = typed_by (nat_lt file.last p) (is_meta (page_at file p)) (is_queue file.kind) (is_reserve file p) (class_by_type (page_at file p)) class is tree
    in
    record { inside = grind (arith, nat_tests, parts.0); typed = parts.1 }

pub tree_inside : (file : File) (p : ℕ) (class : Class) → Some class ≡ class_of file p → of_tree class ≡ true → p ≤ file.last
tree_inside file p class is tree = (is_typed file p class is tree).inside

-- the header of its view is its own
header_is : (view : PageView) (class : Class) → class_by_type (page_seen view) ≡ Some class → of_tree class ≡ true
    → header_seen view ≡ header_in (page_seen view)
header_is (ZeroView view) class typed tree = refl
header_is (FreeView view) class typed tree = refl
header_is (MetaView view) class typed tree = absurd (let same : class ≡ Meta = cc in let other : of_tree Meta ≡ true = ap of_tree (sym same) ∙ tree in cc)
header_is (LeafView view) class typed tree = refl
header_is (InternalView view) class typed tree = refl
header_is (RecnoLeafView view) class typed tree = refl
header_is (RecnoInternalView view) class typed tree = refl
header_is (DupLeafView view) class typed tree = refl
header_is (HashView view) class typed tree = refl
header_is (OverflowView view) class typed tree = refl
header_is (QueueView view) class typed tree = absurd (let none : None ≡ Some class = typed in cc)

pub level_is : (file : File) (p : ℕ) (class : Class) (view : PageView) (level : ℕ) → Some class ≡ class_of file p → of_tree class ≡ true
    → page_seen view ≡ page_at file p
    → level ≡ (header_seen view).level → level ≡ tree_level file p
level_is file p class view level is tree seen level_of =
    let typed : class_by_type (page_seen view) ≡ Some class = ap class_by_type seen ∙ (is_typed file p class is tree).typed in
    let same : header_seen view ≡ header_in (page_at file p) = header_is view class typed tree ∙ ap header_in seen in
    let here : (is_class Internal (class_of file p) || is_class Leaf (class_of file p))
    ≡ true = sym (ap (λ found. is_class Internal found || is_class Leaf found) is) ∙ tree in
    level_of ∙ (ap (λ (h : Header). h.level) same ∙ rw here refl)

pub no_level : (file : File) (p : ℕ) (class : Class) → Some class ≡ class_of file p → of_tree class ≡ false → 0 ≡ tree_level file p
no_level file p class is other =
    let here : (is_class Internal (class_of file p) || is_class Leaf (class_of file p))
    ≡ false = sym (ap (λ found. is_class Internal found || is_class Leaf found) is) ∙ other in
    rw here refl
