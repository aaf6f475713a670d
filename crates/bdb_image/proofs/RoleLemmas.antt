-- The roles of a page, by its bytes.
use Rattle.std.proofs.Common.{◌≡◌, ℕ, zero, suc, ◌<◌, ◌≤◌, true, false, List, arith, refl, sym, ◌∙◌, ap, Option, Some, None, ◌==◌, ◌&&◌, min, ◌-◌, ◌^◌}
use Rattle.std.specs.List.{list_any}
use Rattle.std.proofs.lemmas.Bool.{ne_eqb}
use Rattle.std.proofs.lemmas.List.Folds.{list_any_at}
use Rattle.bdb_faults.specs.of_format.declared.kinds.Order.{Order}
use Rattle.bdb_faults.specs.of_format.declared.pages.PageType.{PageType}
use Rattle.bdb_faults.specs.of_format.declared.pages.PageType.TheVariants.{Free as FreePage, Hash as HashPage, HashMeta as HashMetaPage, BtreeMeta as BtreeMetaPage}
use Rattle.bdb_faults.specs.of_format.declared.pages.PageType.TheVariants.{QueueMeta as QueueMetaPage}
use Rattle.bdb_faults.specs.of_format.Terms.{File, NoType, abstract_page, file_of, four_at, header_of, is_hash_meta, is_meta, is_spare, listed, page_at}
use Rattle.bdb_image.specs.Told.{is_metadata, page_told, told_type}
use Rattle.bdb_image.proofs.FitLemmas.{as_told}
use Rattle.bdb_faults.proofs.of_format.ListLemmas.{none_of_list}
use Rattle.bdb_faults.proofs.of_format.FileLemmas.{pages_counted}

-- Metadata.

meta_as : (order : Order) (page : List ℕ) (type : Option PageType) → is_metadata type ≡ is_meta (page_told order page type)
meta_as order page None = refl
meta_as order page (Some HashMetaPage) = refl
meta_as order page (Some BtreeMetaPage) = refl
meta_as order page (Some QueueMetaPage) = refl
meta_as order page (Some t) = refl

pub meta_is : (order : Order) (page : List ℕ) → is_metadata (told_type page) ≡ is_meta (abstract_page order page)
meta_is order page = as_told is_meta order page (told_type page) _ refl (meta_as order page (told_type page))

pub table_is : (order : Order) (page : List ℕ) → told_type page ≡ Some HashMetaPage → true ≡ is_hash_meta (abstract_page order page)
table_is order page is = as_told is_hash_meta order page (Some HashMetaPage) _ is refl

table_as : (order : Order) (page : List ℕ) (type : Option PageType) → (type ≡ Some HashMetaPage → ⊥) → false ≡ is_hash_meta (page_told order page type)
table_as order page None other = refl
table_as order page (Some HashMetaPage) other = absurd (other refl)
table_as order page (Some t) other = refl

pub table_is_not : (order : Order) (page : List ℕ) → (told_type page ≡ Some HashMetaPage → ⊥) → false ≡ is_hash_meta (abstract_page order page)
table_is_not order page other = as_told is_hash_meta order page (told_type page) _ refl (table_as order page (told_type page) other)

-- Spare pages.

pub spare_zero : (order : Order) (page : List ℕ) → told_type page ≡ None → true ≡ is_spare (abstract_page order page)
spare_zero order page is = as_told is_spare order page None _ is refl

pub spare_free : (order : Order) (page : List ℕ) → told_type page ≡ Some FreePage → (four_at order page 16 == 0) ≡ is_spare (abstract_page order page)
spare_free order page is = as_told is_spare order page (Some FreePage) _ is refl

pub spare_hash : (order : Order) (page : List ℕ) → told_type page ≡ Some HashPage
    → ((header_of order page).entries == 0 && (header_of order page).previous == 0 && (header_of order page).next == 0) ≡ is_spare (abstract_page order page)
unfolding listed
spare_hash order page is = as_told is_spare order page (Some HashPage) _ is refl

spare_as : (order : Order) (page : List ℕ) (type : Option PageType) → (type ≡ None → ⊥) → (type ≡ Some FreePage → ⊥) → (type ≡ Some HashPage → ⊥)
    → false ≡ is_spare (page_told order page type)
spare_as order page None zeros free hash = absurd (zeros refl)
spare_as order page (Some FreePage) zeros free hash = absurd (free refl)
spare_as order page (Some HashPage) zeros free hash = absurd (hash refl)
spare_as order page (Some t) zeros free hash = refl

pub spare_other : (order : Order) (page : List ℕ) → (told_type page ≡ None → ⊥) → (told_type page ≡ Some FreePage → ⊥)
    → (told_type page ≡ Some HashPage → ⊥) → false ≡ is_spare (abstract_page order page)
spare_other order page zeros free hash = as_told is_spare order page (told_type page) _ refl (spare_as order page (told_type page) zeros free hash)

-- The file.

pub some_table : (image : List ℕ) (p : ℕ) → p ≤ (file_of image).last → is_hash_meta (page_at (file_of image) p) ≡ true
    → list_any is_hash_meta (file_of image).pages ≡ true
some_table image p low is = list_any_at is_hash_meta (file_of image).pages p NoType (omega (arith, pages_counted image)) is

-- no page below a number is the metadata of a table
abbrev pub NoTable : File → ℕ → Type 0
NoTable file n = (p : ℕ) → p < n → is_hash_meta (page_at file p) ≡ false

pub no_table : (image : List ℕ) (n : ℕ) → (file_of image).last < n → NoTable (file_of image) n → list_any is_hash_meta (file_of image).pages ≡ false
no_table image n all none = none_of_list is_hash_meta NoType (file_of image).pages (λ p lt. none p (omega (arith, pages_counted image)))

-- a tally that stands still at its type's end counts nothing where there is nothing
pub counts_none : (count n : ℕ) → count ≡ min (2 ^ 32 - 1) n → (count == 0) ≡ (n == 0)
counts_none count zero is = let none : count ≡ 0 = omega arith in ap (λ k. k == 0) none
counts_none count (suc n) is = ne_eqb count 0 (omega arith) ∙ sym (ne_eqb (suc n) 0 (omega arith))

-- which pages are spare
pub ruleset spare_pages = (spare_zero, spare_free, spare_hash, spare_other)
