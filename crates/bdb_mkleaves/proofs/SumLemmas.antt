-- The sum that the root of a tree says, as later files have it.
use Rattle.std.proofs.Common.{◌≡◌, ℕ, ◌<◌, List, length, arith, refl, sym, ◌∙◌, ap, inl, inr}
use Rattle.bdb_mkleaves.proofs.Common.{cases_lt, get_or_past, Order, Header, File, Page, abstract_page, byte_at, four_at, header_in, internal_item_at, page_at, recno_item_at, header_listed}
use Rattle.bdb_mkleaves.proofs.Common.{IsSamePage, InnerType, Keyed, Numbered, Built, bytes_of, file_so_far, page_so_far, typed, inner_number}

-- an internal page has its header
header_as : (inner : InnerType) (order : Order) (bytes : List ℕ) → 25 < length bytes → byte_at bytes 25 ≡ inner_number inner
    → (header_in (abstract_page order bytes)).previous ≡ four_at order bytes 12
header_as Keyed order bytes long is =
    ap (λ page. (header_in page).previous) (typed order bytes 3 long refl is)
    ∙ ap (λ (h : Header). h.previous) (header_listed order bytes (internal_item_at order bytes))
header_as Numbered order bytes long is =
    ap (λ page. (header_in page).previous) (typed order bytes 4 long refl is)
    ∙ ap (λ (h : Header). h.previous) (header_listed order bytes (recno_item_at order bytes))

-- the type byte is there
is_long : (inner : InnerType) (bytes : List ℕ) → byte_at bytes 25 ≡ inner_number inner → 25 < length bytes
is_long inner bytes is = grind (arith, cases_lt, get_or_past)

-- a page that stays has the same page before it
same_previous : (old new : Page) → IsSamePage old new → (header_in new).previous ≡ (header_in old).previous
same_previous old new (inl same) = ap (λ page. (header_in page).previous) same
same_previous old new (inr more) = ap (λ page. (header_in page).previous) more.after ∙ sym (ap (λ page. (header_in page).previous) more.before)

pub sum_stands : (inner : InnerType) (built : Built) (g : File) (p : ℕ) → p < length built.pages → byte_at (bytes_of built p) 25 ≡ inner_number inner
    → IsSamePage (page_at (file_so_far built) p) (page_at g p) → (header_in (page_at g p)).previous ≡ four_at built.order (bytes_of built p) 12
sum_stands inner built g p low is same =
    same_previous (page_at (file_so_far built) p) (page_at g p) same
    ∙ (ap (λ page. (header_in page).previous) (page_so_far built p low)
    ∙ header_as inner built.order (bytes_of built p) (is_long inner (bytes_of built p) is) is)
