-- Bytes that are cut into pages.
use Rattle.std.proofs.Common.{◌≡◌, ℕ, zero, suc, ◌+◌, ◌-◌, ◌*◌, ◌<◌, ◌≤◌, List, [], ◌∷◌, ◌++◌, length, take, drop, get_or, set, replicate, arith, refl, sym}
use Rattle.std.proofs.Common.{◌∙◌, ap, length-append, length-drop, length-take, min}
use Rattle.bdb_pack.proofs.Common.{length-take-le, take-append-drop, drop-drop, drop-take, get_or_append_left, get_or_push, get_or-set_other, get_or-set_same, length-replicate, length-set, drop_all}
use Rattle.bdb_pack.proofs.Common.{append-nil, take-take, take_all, take-append-le, drop-append-le, take_at, drop_at, append_assoc, nil_from_length, copy_within, paste, cases_eq, cases_lt}
use Rattle.bdb_pack.proofs.Common.{overwritten, Order, AreWhole, Built, built_of, bytes_of, cut, joined_pages, with_page, with_zeros, written_over}
use Rattle.std.proofs.Math.Nat.{mul-le-mul_right}

pub length_cut : (size count : ℕ) (bytes : List ℕ) → length (cut size count bytes) ≡ count
length_cut size zero bytes = refl
length_cut size (suc n) bytes = let rest : length (cut size n (drop size bytes)) ≡ n = length_cut size n (drop size bytes) in omega arith

pub suc-times : (n size : ℕ) → suc n * size ≡ size + n * size
suc-times n size = grind arith

-- the pages of bytes, joined again
pub joined_cut : (size count : ℕ) (bytes : List ℕ) → length bytes ≡ count * size → joined_pages (cut size count bytes) ≡ bytes
joined_cut size zero bytes whole = let none : length bytes ≡ 0 = grind arith in sym (nil_from_length bytes none)
joined_cut size (suc n) bytes whole =
    let long : length bytes ≡ size + n * size = whole ∙ suc-times n size in
    let rest : length (drop size bytes) ≡ n * size = omega (arith, length-drop size bytes, long) in
    ap (λ xs. take size bytes ++ xs) (joined_cut size n (drop size bytes) rest) ∙ take-append-drop size bytes

-- a page of the bytes
pub page_of_cut : (size count : ℕ) (bytes : List ℕ) (p : ℕ) → p < count → get_or (cut size count bytes) p [] ≡ take size (drop (p * size) bytes)
page_of_cut size zero bytes p low = absurd (omega arith)
page_of_cut size (suc n) bytes zero low = let e : 0 * size ≡ 0 = grind arith in ap (λ k. take size (drop k bytes)) (sym e)
page_of_cut size (suc n) bytes (suc p) low = grind (arith, drop-drop, suc-times, page_of_cut size n (drop size bytes) p (omega arith))

-- one page more
pub cut_more : (size n : ℕ) (bytes page : List ℕ) → length bytes ≡ n * size → length page ≡ size
    → cut size (n + 1) (bytes ++ page) ≡ cut size n bytes ++ (page ∷ [])
cut_more size zero bytes page whole long = grind (arith, nil_from_length, take_all)
cut_more size (suc n) bytes page whole long =
    let total : length bytes ≡ size + n * size = whole ∙ suc-times n size in
    let rest : length (drop size bytes) ≡ n * size = omega (arith, length-drop size bytes, total) in
    let e : suc n + 1 ≡ suc (n + 1) = omega arith in
    ap (λ k. cut size k (bytes ++ page)) e
    ∙ (ap (λ p. p ∷ cut size (n + 1) (drop size (bytes ++ page))) (take-append-le size bytes page (omega (arith, total)))
    ∙ (ap (λ bs. take size bytes ∷ cut size (n + 1) bs) (drop-append-le size bytes page (omega (arith, total)))
    ∙ ap (λ ps. take size bytes ∷ ps) (cut_more size n (drop size bytes) page rest long)))

-- other bytes on one page
pub cut_set : (size n : ℕ) (bytes page : List ℕ) (p : ℕ) → length bytes ≡ n * size → length page ≡ size → p < n
    → cut size n (overwritten bytes (p * size) page) ≡ set (cut size n bytes) p page
cut_set size zero bytes page p whole long low = absurd (omega arith)
cut_set size (suc n) bytes page zero whole long low = grind (arith, suc-times, take_at, drop_at)
cut_set size (suc n) bytes page (suc p) whole long low =
    let total : length bytes ≡ size + n * size = whole ∙ suc-times n size in
    let rest : length (drop size bytes) ≡ n * size = omega (arith, length-drop size bytes, total) in
    let place : suc p * size ≡ size + p * size = suc-times p size in
    let room : p * size ≤ n * size = mul-le-mul_right size (omega arith) in
    ap (λ k. cut size (suc n) (overwritten bytes k page)) place
    ∙ (ap (λ q. q ∷ cut size n (drop size (overwritten bytes (size + p * size) page))) (front size (p * size) bytes page (omega (arith, total)))
    ∙ (ap (λ bs. take size bytes ∷ cut size n bs) (back size (p * size) bytes page (omega (arith, total)))
    ∙ ap (λ ps. take size bytes ∷ ps) (cut_set size n (drop size bytes) page p rest long (omega arith))))
  where
    front : (a k : ℕ) (bs piece : List ℕ) → a ≤ length bs → take a (overwritten bs (a + k) piece) ≡ take a bs
    front a k bs piece room =
        take-append-le a (take (a + k) bs) (piece ++ drop (a + k + length piece) bs)
        (let e : length (take (a + k) bs) ≡ min (a + k) (length bs) = length-take (a + k) bs in omega (arith, room, e))
        ∙ take-take a (a + k) bs (omega arith)

    back : (a k : ℕ) (bs piece : List ℕ) → a ≤ length bs → drop a (overwritten bs (a + k) piece) ≡ overwritten (drop a bs) k piece
    back a k bs piece room =
        drop-append-le a (take (a + k) bs) (piece ++ drop (a + k + length piece) bs)
        (let e : length (take (a + k) bs) ≡ min (a + k) (length bs) = length-take (a + k) bs in omega (arith, room, e))
        ∙ (ap (λ xs. xs ++ (piece ++ drop (a + k + length piece) bs)) (drop-take a k bs)
        ∙ ap (λ xs. take k (drop a bs) ++ (piece ++ xs))
        (let e : a + k + length piece ≡ a + (k + length piece) = omega arith in ap (λ n. drop n bs) e ∙ sym (drop-drop (k + length piece) a bs)))

-- what is written from the beginning of a page on
pub lent : (size count : ℕ) (bytes : List ℕ) (at : ℕ) (piece : List ℕ) → length bytes ≡ count * size
    → cut size count (take at bytes ++ (piece ++ drop (length piece) (drop at bytes)))
    ≡ cut size (length (cut size count bytes)) (overwritten (joined_pages (cut size count bytes)) at piece)
lent size count bytes at piece whole = grind (arith, drop-drop, length_cut, joined_cut)

-- only the bytes of the pages count
pub cut_take : (size n : ℕ) (bytes : List ℕ) → cut size n (take (n * size) bytes) ≡ cut size n bytes
cut_take size zero bytes = refl
cut_take size (suc n) bytes = grind (arith, suc-times, take-take, drop-take, cut_take size n (drop size bytes))

-- the first pages of the bytes
pub cut_fewer : (size k n : ℕ) (bytes : List ℕ) → k ≤ n → cut size k bytes ≡ take k (cut size n bytes)
cut_fewer size zero n bytes few = refl
cut_fewer size (suc k) zero bytes few = absurd (omega (arith, few))
cut_fewer size (suc k) (suc n) bytes few = ap (λ ps. take size bytes ∷ ps) (cut_fewer size k n (drop size bytes) (omega (arith, few)))

-- a vector keeps its length, whatever is written
pub kept : (size count : ℕ) (bytes written : List ℕ) → length bytes ≡ count * size → length bytes ≤ length written
    → cut size count (take (length bytes) (written ++ drop (length written) bytes)) ≡ cut size count written
kept size count bytes written whole long = grind (arith, drop_all, append-nil, cut_take)

pub long_enough : (bytes piece : List ℕ) (at : ℕ) → length bytes ≤ length (take at bytes ++ (piece ++ drop (length piece) (drop at bytes)))
long_enough bytes piece at = grind (arith, length-append, length-take, length-drop)

-- the bytes written over one page are that page
pub written_page : (size count : ℕ) (order : Order) (bytes : List ℕ) (p : ℕ) (page : List ℕ) → length bytes ≡ count * size → p < count → length page ≡ size
    → written_over (built_of size order count bytes) p page ≡ with_page (built_of size order count bytes) p page
written_page size count order bytes p page whole low long = grind (arith, length_cut, joined_cut, cut_set)

pub page_length : (size count : ℕ) (bytes : List ℕ) (p : ℕ) → length bytes ≡ count * size → p < count → length (get_or (cut size count bytes) p []) ≡ size
page_length size count bytes p whole low = grind (arith, mul-le-mul_right, suc-times, page_of_cut, length-take-le, length-drop)

-- whole pages, joined and cut again
pub all_size : (size : ℕ) (pages : List (List ℕ)) → ((p : ℕ) → p < length pages → length (get_or pages p []) ≡ size)
    → (cut size (length pages) (joined_pages pages) ≡ pages) × (length (joined_pages pages) ≡ length pages * size)
all_size size [] whole = (refl, (let e : 0 ≡ 0 * size = grind arith in e))
all_size size (page ∷ pages) whole =
    let rest = all_size size pages (λ p low. whole (suc p) (omega arith)) in
    let long : length page ≡ size = whole 0 (omega arith) in (
      ap (λ q. q ∷ cut size (length pages) (drop size (page ++ joined_pages pages))) (take_at page (joined_pages pages) size long)
          ∙ (ap (λ bs. page ∷ cut size (length pages) bs) (drop_at page (joined_pages pages) size long) ∙ ap (λ ps. page ∷ ps) rest.0),
      length-append page (joined_pages pages) ∙ (omega (arith, long, rest.1, suc-times (length pages) size)),
    )

-- the bytes written over one page of whole pages are that page
pub written_whole : (built : Built) (p : ℕ) (page : List ℕ) → AreWhole built → p < length built.pages → length page ≡ built.size
    → written_over built p page ≡ with_page built p page
written_whole built p page whole low long =
    let all = all_size built.size built.pages whole in
    ap (λ pages. let b : Built = record { size = built.size; order = built.order; pages = pages } in b)
    (cut_set built.size (length built.pages) (joined_pages built.pages) page p all.1 long low ∙ ap (λ ps. set ps p page) all.0)

-- pages stay whole with one more
pub more_whole : (built : Built) (page : List ℕ) → AreWhole built → length page ≡ built.size
    → AreWhole (record built { pages = built.pages ++ (page ∷ []) })
more_whole built page whole long p low = grind (arith, cases_lt, get_or_append_left, get_or_push, length-append)

pub zeros_whole : (built : Built) → AreWhole built → AreWhole (with_zeros built)
zeros_whole built whole = more_whole built (replicate built.size 0) whole (length-replicate built.size 0)

-- and with other bytes on one
pub page_whole : (built : Built) (p : ℕ) (page : List ℕ) → AreWhole built → p < length built.pages → length page ≡ built.size
    → AreWhole (with_page built p page)
page_whole built p page whole here long q low = grind (arith, cases_eq, get_or-set_same, get_or-set_other, length-set)

-- the bytes of a page copied over those of another
pub copied_over : (size count : ℕ) (order : Order) (bytes : List ℕ) (from to end : ℕ) → length bytes ≡ count * size → from < count → to < count
    → end ≡ from * size + size
    → let old : Built = built_of size order count bytes in
    built_of size order count (copy_within bytes (from * size) end (to * size)) ≡ with_page old to (bytes_of old from)
copied_over size count order bytes from to end whole from_low to_low at_end =
    let page : List ℕ = take size (drop (from * size) bytes) in
    let is : get_or (cut size count bytes) from [] ≡ page = page_of_cut size count bytes from from_low in
    let long : length page ≡ size = ap length (sym is) ∙ page_length size count bytes from whole from_low in
    let room : end - from * size ≡ size = omega (arith, at_end) in
    let written : copy_within bytes (from * size) end (to * size) ≡ overwritten bytes (to * size) page =
    ap (λ n. paste bytes (to * size) (drop (from * size) bytes) n) room
    ∙ (append_assoc (take (to * size) bytes) page (drop (to * size + size) bytes)
    ∙ ap (λ n. take (to * size) bytes ++ (page ++ drop (to * size + n) bytes)) (sym long)) in
    ap (λ ps. let b : Built = record { size = size; order = order; pages = ps } in b)
    (ap (cut size count) written
    ∙ (cut_set size count bytes page to whole long to_low ∙ ap (set (cut size count bytes) to) (sym is)))
