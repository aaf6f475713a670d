-- What a page is to a reference, by its bytes, and the codes with which references fail.
use Rattle.std.proofs.Common.{◌≡◌, ℕ, ◌+◌, ◌≤◌, ◌<◌, ◌⊎◌, Bool, true, false, cond, List, [], ◌∷◌, arith, refl, sym, ◌∙◌, ap, inl, inr}
use Rattle.std.specs.Prelude.{Option, Some, None, is_none, ◌==◌, ◌||◌, nat_lt}
use Rattle.std.proofs.lemmas.Bool.{cases_Bool, cases_order, le-ltb, lt-ltb, ne_eqb, or_from}
use Rattle.std.proofs.Math.Bool.{or-true}
use Rattle.bdb_faults.specs.of_format.declared.kinds.Fault.{Fault}
use Rattle.bdb_faults.specs.of_format.declared.kinds.Order.{Order}
use Rattle.bdb_faults.specs.of_format.declared.pages.Header.{Header}
use Rattle.bdb_faults.specs.of_format.declared.pages.PageType.{PageType}
use Rattle.bdb_faults.specs.of_format.declared.pages.PageType.TheVariants.{Free as FreePage, Hash as HashPage, Internal as InternalPage}
use Rattle.bdb_faults.specs.of_format.declared.pages.PageType.TheVariants.{RecnoInternal as RecnoInternalPage, HashMeta as HashMetaPage, BtreeMeta as BtreeMetaPage}
use Rattle.bdb_faults.specs.of_format.declared.pages.PageType.TheVariants.{QueueMeta as QueueMetaPage, Queue as QueuePage, Other as OtherPage}
use Rattle.bdb_faults.specs.of_format.declared.pages.PageType.TheVariants.{Leaf as LeafPage, RecnoLeaf as RecnoLeafPage, DupLeaf as DupLeafPage}
use Rattle.bdb_faults.specs.of_format.declared.pages.PageType.TheVariants.{Overflow as OverflowPage}
use Rattle.bdb_faults.specs.of_format.declared.references.Reference.{Reference}
use Rattle.bdb_faults.specs.of_format.Terms.{Asked, File, Page, Row, abstract_page, asked_by, byte_at, child_types, first_row, fit_code, four_at, has_bit}
use Rattle.bdb_faults.specs.of_format.Terms.{has_type, header_in, header_of, is_zero, is_zero_page, listed, no_header, page_as, page_at, page_type, root_types}
use Rattle.bdb_faults.specs.of_format.Terms.{two_at, type_in}
use Rattle.bdb_image.specs.Fits.{page_rows}
use Rattle.bdb_image.specs.Told.{is_chain, is_headed, page_told, told_byte, told_type, type_unless}
use Rattle.bdb_faults.proofs.of_format.GraphLemmas.{zero_page, typed_page}
use Rattle.bdb_faults.proofs.of_format.SizeLemmas.{long_page}
use Rattle.bdb_faults.proofs.of_format.TypeLemmas.{HasByte, byte_of}
use Rattle.bdb_image.proofs.FormedLemmas.{tells_number}
use Rattle.bdb_faults.proofs.of_format.FileLemmas.{last_page, page_is}

-- Bytes as a page.

-- a page is the one of the type that it tells
pub told : (order : Order) (page : List ℕ) → abstract_page order page ≡ page_told order page (told_type page)
told order page =
    let of : Bool → Page = λ b. page_told order page (type_unless b (page_type (byte_at page 25))) in
    elim (cases_Bool (is_zero page)) [
      | inl empty ↦ zero_page order page empty ∙ sym (ap of empty)
      | inr some ↦ typed_page order page some ∙ sym (ap of some)
    ]

-- what is so of the page of a type is so of a page that tells this type
pub as_told : {X : Type 0} (f : Page → X) (order : Order) (page : List ℕ) (type : Option PageType) (x : X) → told_type page ≡ type
    → x ≡ f (page_told order page type) → x ≡ f (abstract_page order page)
as_told f order page type x is found = found ∙ sym (ap f (told order page) ∙ ap (λ t. f (page_told order page t)) is)

zero_as : (order : Order) (page : List ℕ) (type : Option PageType) → is_none type ≡ is_zero_page (page_told order page type)
zero_as order page None = refl
zero_as order page (Some FreePage) = refl
zero_as order page (Some t) = refl

-- a page is a zero page where it tells no type
pub is_zero_page_is : (order : Order) (page : List ℕ) → is_none (told_type page) ≡ is_zero_page (abstract_page order page)
is_zero_page_is order page = as_told is_zero_page order page (told_type page) _ refl (zero_as order page (told_type page))

-- The type byte.

-- what the page of a type has as its type
type_as : (order : Order) (page : List ℕ) (t : PageType) → HasByte (byte_at page 25) t
    → told_byte (byte_at page 25) (Some t) ≡ type_in (page_as order page t)
unfolding listed
type_as order page HashPage has = refl
type_as order page OtherPage has = refl
type_as order page t has = ap (λ n. Some n) has

pub zero_type : (order : Order) (page : List ℕ) → is_zero page ≡ true → None ≡ type_in (abstract_page order page)
zero_type order page empty = sym (ap type_in (zero_page order page empty))

-- the type of a page is its type byte, unless it's a zero page or its type isn't supported
pub type_is : (order : Order) (page : List ℕ) → told_byte (byte_at page 25) (told_type page) ≡ type_in (abstract_page order page)
type_is order page =
    let of : Bool → Option ℕ = λ b. told_byte (byte_at page 25) (type_unless b (page_type (byte_at page 25))) in
    elim (cases_Bool (is_zero page)) [
      | inl empty ↦ ap of empty ∙ zero_type order page empty
      | inr some ↦
          ap of some ∙ type_as order page (page_type (byte_at page 25)) (byte_of (byte_at page 25)) ∙ sym (ap type_in (typed_page order page some))
    ]

-- a page with a type has it as its type byte
pub type_byte : (order : Order) (page : List ℕ) (byte : ℕ) → type_in (abstract_page order page) ≡ Some byte
    → (is_zero page ≡ false) × (byte_at page 25 ≡ byte)
type_byte order page byte is = of (is_zero page) (page_type (byte_at page 25)) refl (type_is order page ∙ is)
  where
    of : (b : Bool) (t : PageType) → is_zero page ≡ b → told_byte (byte_at page 25) (type_unless b t) ≡ Some byte
        → (is_zero page ≡ false) × (byte_at page 25 ≡ byte)
    of true t zeros is = absurd cc
    of false OtherPage some is = absurd cc
    of false t some is = (some, cc)

-- the type byte of a page of a chain
chain_as : (byte : ℕ) (t : PageType) → HasByte byte t → is_chain (Some t) ≡ has_type (7 ∷ []) (told_byte byte (Some t))
chain_as byte HashPage (inl two) = rw two refl
chain_as byte HashPage (inr sorted) = rw sorted refl
chain_as byte OtherPage has = refl
chain_as byte t has = rw has refl

pub overflow_is : (order : Order) (page : List ℕ) → is_chain (told_type page) ≡ has_type (7 ∷ []) (type_in (abstract_page order page))
overflow_is order page =
    of (is_zero page) (page_type (byte_at page 25)) (byte_of (byte_at page 25)) ∙ ap (has_type (7 ∷ [])) (type_is order page)
  where
    of : (b : Bool) (t : PageType) → HasByte (byte_at page 25) t
        → is_chain (type_unless b t) ≡ has_type (7 ∷ []) (told_byte (byte_at page 25) (type_unless b t))
    of true t has = refl
    of false t has = chain_as (byte_at page 25) t has

-- Headers.

headed_as : (order : Order) (page : List ℕ) (type : Option PageType) → is_headed type ≡ true → header_of order page ≡ header_in (page_told order page type)
unfolding listed
headed_as order page None is = absurd cc
headed_as order page (Some HashMetaPage) is = absurd cc
headed_as order page (Some BtreeMetaPage) is = absurd cc
headed_as order page (Some QueueMetaPage) is = absurd cc
headed_as order page (Some QueuePage) is = absurd cc
headed_as order page (Some OtherPage) is = absurd cc
headed_as order page (Some t) is = refl

unheaded_as : (order : Order) (page : List ℕ) (type : Option PageType) → is_headed type ≡ false → no_header ≡ header_in (page_told order page type)
unheaded_as order page None is = refl
unheaded_as order page (Some HashMetaPage) is = refl
unheaded_as order page (Some BtreeMetaPage) is = refl
unheaded_as order page (Some QueueMetaPage) is = refl
unheaded_as order page (Some QueuePage) is = refl
unheaded_as order page (Some OtherPage) is = refl
unheaded_as order page (Some t) is = absurd cc

-- a page that begins with the fields of a header has them
headed : (order : Order) (page : List ℕ) → is_headed (told_type page) ≡ true → header_of order page ≡ header_in (abstract_page order page)
headed order page is = as_told header_in order page (told_type page) _ refl (headed_as order page (told_type page) is)

pub headed_previous : (order : Order) (page : List ℕ) → is_headed (told_type page) ≡ true
    → four_at order page 12 ≡ (header_in (abstract_page order page)).previous
headed_previous order page is = ap (λ (header : Header). header.previous) (headed order page is)

pub headed_next : (order : Order) (page : List ℕ) → is_headed (told_type page) ≡ true → four_at order page 16 ≡ (header_in (abstract_page order page)).next
headed_next order page is = ap (λ (header : Header). header.next) (headed order page is)

pub headed_entries : (order : Order) (page : List ℕ) → is_headed (told_type page) ≡ true → two_at order page 20 ≡ (header_in (abstract_page order page)).entries
headed_entries order page is = ap (λ (header : Header). header.entries) (headed order page is)

pub headed_level : (order : Order) (page : List ℕ) → is_headed (told_type page) ≡ true → byte_at page 24 ≡ (header_in (abstract_page order page)).level
headed_level order page is = ap (λ (header : Header). header.level) (headed order page is)

-- another page has none
pub unheaded : (order : Order) (page : List ℕ) → is_headed (told_type page) ≡ false → no_header ≡ header_in (abstract_page order page)
unheaded order page is = as_told header_in order page (told_type page) _ refl (unheaded_as order page (told_type page) is)

-- The types that a page's references ask for.

pub tree_root : (order : Order) (page : List ℕ) → told_type page ≡ Some BtreeMetaPage
    → cond (has_bit (four_at order page 48) 2) (4 ∷ 6 ∷ []) (3 ∷ 5 ∷ []) ≡ root_types (abstract_page order page)
tree_root order page is = as_told root_types order page (Some BtreeMetaPage) _ is refl

root_as : (order : Order) (page : List ℕ) (type : Option PageType) → (type ≡ Some BtreeMetaPage → ⊥) → [] ≡ root_types (page_told order page type)
root_as order page None other = refl
root_as order page (Some BtreeMetaPage) other = absurd (other refl)
root_as order page (Some t) other = refl

pub no_root : (order : Order) (page : List ℕ) → (told_type page ≡ Some BtreeMetaPage → ⊥) → [] ≡ root_types (abstract_page order page)
no_root order page other = as_told root_types order page (told_type page) _ refl (root_as order page (told_type page) other)

pub internal_child : (order : Order) (page : List ℕ) → told_type page ≡ Some InternalPage → cond (byte_at page 24 == 2) (5 ∷ 12 ∷ []) (3 ∷ [])
    ≡ child_types (abstract_page order page)
unfolding listed
internal_child order page is = as_told child_types order page (Some InternalPage) _ is refl

pub recno_child : (order : Order) (page : List ℕ) → told_type page ≡ Some RecnoInternalPage → cond (byte_at page 24 == 2) (6 ∷ []) (4 ∷ [])
    ≡ child_types (abstract_page order page)
unfolding listed
recno_child order page is = as_told child_types order page (Some RecnoInternalPage) _ is refl

child_as : (order : Order) (page : List ℕ) (type : Option PageType) → (type ≡ Some InternalPage → ⊥) → (type ≡ Some RecnoInternalPage → ⊥)
    → [] ≡ child_types (page_told order page type)
child_as order page None other another = refl
child_as order page (Some InternalPage) other another = absurd (other refl)
child_as order page (Some RecnoInternalPage) other another = absurd (another refl)
child_as order page (Some t) other another = refl

pub no_child : (order : Order) (page : List ℕ) → (told_type page ≡ Some InternalPage → ⊥) → (told_type page ≡ Some RecnoInternalPage → ⊥)
    → [] ≡ child_types (abstract_page order page)
no_child order page other another = as_told child_types order page (told_type page) _ refl (child_as order page (told_type page) other another)

-- The rows of one reference.

-- a reference to a page that isn't there
pub fits_nowhere : (file : File) (p : ℕ) (reference : Reference) → (reference.target == 0 || nat_lt file.last reference.target) ≡ true
    → Some 1 ≡ fit_code file p reference
unfolding fit_code
fits_nowhere file p reference out =
    ap (λ b. cond b (Some 1) (first_row (page_rows (asked_by p (page_at file p) reference.sort) (page_at file reference.target)))) (sym out)

-- a reference to a page that is there
pub fits_there : (file : File) (p : ℕ) (reference : Reference) → (reference.target == 0 || nat_lt file.last reference.target) ≡ false
    → first_row (page_rows (asked_by p (page_at file p) reference.sort) (page_at file reference.target)) ≡ fit_code file p reference
unfolding fit_code
fits_there file p reference inside =
    ap (λ b. cond b (Some 1) (first_row (page_rows (asked_by p (page_at file p) reference.sort) (page_at file reference.target)))) (sym inside)

-- a reference to page 0
pub names_zero : (file : File) (p : ℕ) (reference : Reference) → reference.target ≡ 0 → Some 1 ≡ fit_code file p reference
names_zero file p reference is = fits_nowhere file p reference (ap (λ n. n == 0 || nat_lt file.last n) is)

-- a reference to a page above the last one
pub names_above : (file : File) (p : ℕ) (reference : Reference) → file.last < reference.target → Some 1 ≡ fit_code file p reference
names_above file p reference above =
    fits_nowhere file p reference (ap (λ b. reference.target == 0 || b) (lt-ltb file.last reference.target above) ∙ or-true (reference.target == 0))

-- a reference to a page that is there, by what it asks and what that page is
pub names_page : (file : File) (p : ℕ) (reference : Reference) (asked : Asked) (holder target : Page) (code : Option ℕ) → (reference.target ≡ 0 → ⊥)
    → reference.target ≤ file.last
    → code ≡ first_row (page_rows asked target) → asked ≡ asked_by p holder reference.sort → holder ≡ page_at file p → target ≡ page_at file reference.target
    → code ≡ fit_code file p reference
names_page file p reference asked holder target code some low code_is asked_is holder_is target_is = grind (arith, fits_there, or_from, ne_eqb, le-ltb)

-- The first fault of a stage.

abbrev named : ℕ → ℕ → ℕ → Fault
named stage page code = record { stage = stage; page = page; code = code }

-- no row of these holds at the pages from one on and below another
abbrev pub NoneHold : (ℕ → List (Row ℕ)) → ℕ → ℕ → Type 0
NoneHold rows from to = (p : ℕ) → from ≤ p → p < to → None ≡ first_row (rows p)

-- one more page at which no row holds
pub none_more : (rows : ℕ → List (Row ℕ)) (from to : ℕ) → NoneHold rows from to → None ≡ first_row (rows to) → NoneHold rows from (to + 1)
none_more rows from to none here p low below = grind (arith, cases_order)

-- which pages are named
pub ruleset pages_named = (names_zero, names_above, last_page)

-- which types the children of a page have
pub ruleset types_of_children = (no_child, internal_child, recno_child)

-- what a page of a formed image is
pub ruleset looked_pages = (page_is, long_page, last_page, tells_number)
