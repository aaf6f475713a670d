-- What a file is, by its image.
use Rattle.std.proofs.Common.{◌≡◌, ℕ, ◌+◌, ◌<◌, ◌≤◌, List, length, arith, refl}
use Rattle.std.proofs.lemmas.List.{get_or_past}
use Rattle.std.proofs.lemmas.List.FromFn.{get_or-map-range_with_len, length-map-range_with_len}
use Rattle.bdb_format.specs.Terms.{NoType, abstract_page, file_of, head_of, page_at, page_bytes}

pub kind_is : (image : List ℕ) → (file_of image).kind ≡ (head_of image).kind
unfolding file_of
kind_is image = refl

pub last_page : (image : List ℕ) → (file_of image).last ≡ (head_of image).last
unfolding file_of
last_page image = refl

-- a file has as many pages as its head says
pub count_is : (image : List ℕ) → (file_of image).count ≡ (head_of image).pages
unfolding file_of
count_is image = refl

-- the pages of a file are those from 0 to the last
pub pages_counted : (image : List ℕ) → length (file_of image).pages ≡ (file_of image).last + 1
unfolding file_of
pages_counted image = length-map-range_with_len (λ p. abstract_page (head_of image).order (page_bytes (head_of image) image p)) 0 ((head_of image).last + 1)

pub page_is : (image : List ℕ) (p : ℕ) → p ≤ (head_of image).last → page_at (file_of image) p
    ≡ abstract_page (head_of image).order (page_bytes (head_of image) image p)
unfolding file_of
page_is image p low = grind (arith, get_or-map-range_with_len)

-- a page past the last is none
pub past_last : (image : List ℕ) (p : ℕ) → (file_of image).last < p → page_at (file_of image) p ≡ NoType
past_last image p past = get_or_past (file_of image).pages p NoType (omega (arith, past, pages_counted image))
