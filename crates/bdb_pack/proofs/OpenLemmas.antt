-- What is known of a page before it is written.
use Rattle.std.proofs.Common.{◌≡◌, ℕ, ◌*◌, ◌<◌, ◌≤◌, true, List, length, arith, ◌∙◌, ap, subst}
use Rattle.bdb_pack.proofs.Common.{Order, RecnoItem, is_page_size, recno_bytes, length-pair, size_bounds, IsBegun, IsOpen, Built, built_of, bytes_of, with_page, written_over}
use Rattle.bdb_pack.proofs.CutLemmas.{length_cut, page_length, written_page}

-- a page that takes items leaves room for them
pub open_is : (order : Order) (page : List ℕ) → IsBegun order page → IsOpen order page
open_is order page begun = grind (arith, size_bounds)

pub recno_length : (order : Order) (item : RecnoItem) → length (recno_bytes order item) ≡ 8
unfolding recno_bytes
recno_length order item = length-pair order item.child item.count

-- the bytes of one page were changed
pub edited : (size count : ℕ) (order : Order) (bytes : List ℕ) (built : Built) (p : ℕ) (f : Order → List ℕ → List ℕ) (page new : List ℕ)
    → built_of size order count bytes ≡ built → length bytes ≡ count * size
    → p < length built.pages → page ≡ bytes_of built p → new ≡ f order page → length new ≡ length page
    → written_over built p new ≡ with_page built p (f built.order (bytes_of built p))
edited size count order bytes built p f page new seen whole low page_is new_is same =
    subst (λ (b : Built). (p < length b.pages) → page ≡ bytes_of b p → written_over b p new ≡ with_page b p (f b.order (bytes_of b p))) seen
    (λ below is.
    let b : Built = built_of size order count bytes in
    let under : p < count = omega (arith, below, length_cut size count bytes) in
    let long : length new ≡ size = same ∙ (ap length is ∙ page_length size count bytes p whole under) in
    written_page size count order bytes p new whole under long ∙ ap (with_page b p) (new_is ∙ ap (f order) is))
    low page_is

-- a page of whole pages has their size
pub page_size : (size count : ℕ) (order : Order) (bytes : List ℕ) (built : Built) (p : ℕ) (page : List ℕ) → built_of size order count bytes ≡ built
    → length bytes ≡ count * size → p < length built.pages → page ≡ bytes_of built p → length page ≡ size
page_size size count order bytes built p page seen whole low page_is = grind (arith, page_length, length_cut)

pub page_bounds : (size count : ℕ) (order : Order) (bytes : List ℕ) (built : Built) (p : ℕ) (page : List ℕ) → built_of size order count bytes ≡ built
    → length bytes ≡ count * size → is_page_size size ≡ true
    → p < length built.pages → page ≡ bytes_of built p → (26 ≤ length page) × (length page ≤ 32768)
page_bounds size count order bytes built p page seen whole legal low page_is =
    let long = page_size size count order bytes built p page seen whole low page_is in
    let bounds = size_bounds size legal in (omega (arith, long, bounds.0), omega (arith, long, bounds.1))
