-- Metadata of a sound file has no row either where it's held against itself and the last page that the image has whole.
use Rattle.std.proofs.Common.{◌≡◌, ℕ, ◌≤◌, ◌++◌, ◌∷◌, [], Bool, true, false, List, length, arith, sym, refl, ◌∙◌, ap, inl, inr, ltb-false}
use Rattle.std.specs.Prelude.{nat_lt, ◌==◌, ◌||◌, None, Some}
use Rattle.std.proofs.lemmas.Bool.{cases_Bool, or_parts}
use Rattle.bdb_survey.specs.of_format.declared.kinds.Order.{Order}
use Rattle.bdb_survey.specs.of_format.declared.metadata.FileKind.TheVariants.{Btree, Hash}
use Rattle.bdb_survey.specs.of_format.declared.metadata.Head.{Head}
use Rattle.bdb_survey.specs.of_format.declared.pages.PageType.{PageType}
use Rattle.bdb_survey.specs.of_format.declared.pages.PageType.TheVariants.{HashMeta as HashMetaPage, BtreeMeta as BtreeMetaPage}
use Rattle.bdb_survey.specs.of_format.Terms.{Row, byte_at, first_row, form_code, four_at, identity_rows, is_page_size, is_zero, meta_rows, metadata_rows}
use Rattle.bdb_survey.specs.of_format.Terms.{page_type, table_rows, type_of, ◌:?◌}
use Rattle.bdb_survey.proofs.of_format.PageLemmas.{zero_byte}
use Rattle.bdb_survey.proofs.of_format.TypeLemmas.{byte_as}
use Rattle.bdb_survey.proofs.of_image.HeldLemmas.{table_formed, tree_formed}
use Rattle.bdb_survey.specs.Salvage.{meta_code}

-- A later last page.

none_left : (xs ys : List (Row ℕ)) → first_row (xs ++ ys) ≡ None → (first_row xs ≡ None) × (first_row ys ≡ None)
none_left [] ys none = (refl, none)
none_left (row ∷ xs) ys none = elim (cases_Bool row.holds) [
  | inl holds ↦ absurd (let no : Some row.code ≡ None = sym (rw holds refl) ∙ none in cc)
  | inr fails ↦ let rest = none_left xs ys (sym (rw fails refl) ∙ none) in (rw fails rest.0, rest.1)
]

none_both : (xs ys : List (Row ℕ)) → first_row xs ≡ None → first_row ys ≡ None → first_row (xs ++ ys) ≡ None
none_both [] ys first second = second
none_both (row ∷ xs) ys first second = elim (cases_Bool row.holds) [
  | inl holds ↦ absurd (let no : Some row.code ≡ None = sym (rw holds refl) ∙ first in cc)
  | inr fails ↦ rw fails (none_both xs ys (sym (rw fails refl) ∙ first) second)
]

last_row : (a b c d e : Bool) → (d ≡ false → e ≡ false) → first_row {Code = ℕ} (11 :? a ∷ 12 :? b ∷ 13 :? c ∷ 14 :? d ∷ []) ≡ None
    → first_row {Code = ℕ} (11 :? a ∷ 12 :? b ∷ 13 :? c ∷ 14 :? e ∷ []) ≡ None
last_row true b c d e wider none = absurd cc
last_row false true c d e wider none = absurd cc
last_row false false true d e wider none = absurd cc
last_row false false false true e wider none = absurd cc
last_row false false false false true wider none = absurd (let no : true ≡ false = wider refl in cc)
last_row false false false false false wider none = refl

within : (last more most : ℕ) (lacks : Bool) → last ≤ more → (nat_lt last most || lacks) ≡ false → (nat_lt more most || lacks) ≡ false
within last more most lacks later fails = grind (arith, or_parts, ltb-false)

table_more : (order : Order) (page : List ℕ) (last more : ℕ) → last ≤ more → first_row (table_rows order page last) ≡ None
    → first_row (table_rows order page more) ≡ None
table_more order page last more later none = last_row _ _ _ _ _ (within last more _ _ later) none

-- a table that has few enough pages for a last page has so for a later one
rows_more : (order : Order) (page : List ℕ) (number last more : ℕ) → last ≤ more → first_row (metadata_rows order page number last Hash) ≡ None
    → first_row (metadata_rows order page number more Hash) ≡ None
unfolding metadata_rows
rows_more order page number last more later none =
    let identity : List (Row ℕ) = identity_rows order page number (λ byte. byte == type_of Hash) in
    let fields : List (Row ℕ) = meta_rows order page number Hash in
    let outer = none_left identity (fields ++ table_rows order page last) none in
    let inner = none_left fields (table_rows order page last) outer.1 in
    none_both identity (fields ++ table_rows order page more) outer.0
    (none_both fields (table_rows order page more) inner.0 (table_more order page last more later inner.1))

-- A page by its type.

held_as : (head : Head) (number more : ℕ) (page : List ℕ) → is_page_size (length page) ≡ true → form_code head number page ≡ None
    → four_at head.order page 8 ≡ number → head.last ≤ more
    → (t : PageType) → page_type (byte_at page 25) ≡ t → meta_code head.order more page t ≡ None
held_as head number more page legal none own later HashMetaPage type =
    ap (λ n. first_row (metadata_rows head.order page n more Hash)) own
    ∙ rows_more head.order page number head.last more later (table_formed head number page legal (byte_as (byte_at page 25) HashMetaPage type) none)
held_as head number more page legal none own later BtreeMetaPage type =
    ap (λ n. first_row (metadata_rows head.order page n 0 Btree)) own
    ∙ tree_formed head number page legal (byte_as (byte_at page 25) BtreeMetaPage type) none
held_as head number more page legal none own later t type = refl

pub meta_none : (head : Head) (number more : ℕ) (page : List ℕ) → is_page_size (length page) ≡ true → form_code head number page ≡ None
    → four_at head.order page 8 ≡ number → head.last ≤ more
    → meta_code head.order more page (page_type (byte_at page 25)) ≡ None
meta_none head number more page legal none own later =
    held_as head number more page legal none own later (page_type (byte_at page 25)) refl

-- a zero page isn't metadata
pub zero_none : (order : Order) (last : ℕ) (page : List ℕ) → is_zero page ≡ true → meta_code order last page (page_type (byte_at page 25)) ≡ None
zero_none order last page zeros = ap (λ byte. meta_code order last page (page_type byte)) (zero_byte page 25 zeros)
