-- A page that is added, and begun.
use Rattle.std.proofs.Common.{◌≡◌, ℕ, zero, suc, true, List, [], ◌∷◌, length, replicate, arith, refl, ap, ◌∙◌, length-append}
use Rattle.bdb_pack.proofs.Common.{get_or-append_seam, length-replicate, Header, is_page_size, is_zero, Built, bytes_of, with_page, with_zeros, takes_items, IsBegunOn, FitsFields, begun_page}
use Rattle.bdb_pack.proofs.BegunLemmas.{begun_on}
use Rattle.bdb_pack.proofs.HeaderLemmas.{begun_pages_take_items}

pub zeros_are : (n : ℕ) → is_zero (replicate n 0) ≡ true
zeros_are zero = refl
zeros_are (suc n) = zeros_are n

added_is : (built : Built) → bytes_of (with_zeros built) (length built.pages) ≡ replicate built.size 0
added_is built = get_or-append_seam built.pages (replicate built.size 0) [] []

pub added_zero : (built : Built) → is_zero (bytes_of (with_zeros built) (length built.pages)) ≡ true
added_zero built = ap is_zero (added_is built) ∙ zeros_are built.size

-- it takes items once it has a header
pub begun_added : (built : Built) (header : Header) → is_page_size built.size ≡ true → takes_items header.page_type ≡ true → FitsFields header
    → let new : Built = with_zeros built in
    IsBegunOn (with_page new (length built.pages) (begun_page built.order (bytes_of new (length built.pages)) header)) (length built.pages)
begun_added built header legal takes fits =
    let page : List ℕ = bytes_of (with_zeros built) (length built.pages) in
    let long : length page ≡ built.size = ap length (added_is built) ∙ length-replicate built.size 0 in
    begun_on (with_zeros built) (length built.pages) (begun_page built.order page header)
    (omega (arith, length-append built.pages (replicate built.size 0 ∷ [])))
    (begun_pages_take_items built.order page header (ap is_page_size long ∙ legal) takes fits).1
