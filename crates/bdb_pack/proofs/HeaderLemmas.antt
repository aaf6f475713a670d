-- A header that was written is read, and its page takes items.
use Rattle.std.proofs.Common.{◌≡◌, ℕ, ◌+◌, ◌^◌, ◌<◌, List, [], ◌∷◌, ◌++◌, length, drop, arith, refl, sym, ◌∙◌, ap, length-append}
use Rattle.bdb_pack.proofs.Common.{append_assoc, Order, Header, DupLeaf, Hash, Internal, Leaf, RecnoInternal, RecnoLeaf, byte_at, entries_of, header_bytes, header_of, is_page_size, listed, lsn_bytes}
use Rattle.bdb_pack.proofs.Common.{number_at, page_as, page_type, spelled, two_at, length-overwritten, length-spelled, number_at-first, size_bounds, takes_items, BegunPagesTakeItems, begun_header}
use Rattle.bdb_pack.proofs.Common.{begun_page, empty_listed, empty_page}
use Rattle.bdb_layout.proofs.of_format.TurnLemmas.{byte_at_past, number_at_past}
use Rattle.bdb_pack.proofs.StandingLemmas.{listing, typed}
use Rattle.bdb_pack.proofs.TypeLemmas.{Takes, by_type, takes}

pub length-header : (order : Order) (header : Header) → length (header_bytes order header) ≡ 26
unfolding header_bytes
length-header order header = grind (arith, length-spelled, length-append)

pub record Fits (header : Header) : Type 0 where
  pub number : header.number < 2 ^ 32
  pub previous : header.previous < 2 ^ 32
  pub next : header.next < 2 ^ 32
  pub entries : header.entries < 2 ^ 16
  pub high : header.high_free < 2 ^ 16

pub header_read : (order : Order) (h : Header) (rest : List ℕ) → Fits h → header_of order (header_bytes order h ++ rest) ≡ h
unfolding header_bytes
header_read order h rest fits =
    let s : (n x : ℕ) → length (spelled n order x) ≡ n = λ n x. length-spelled n order x in
    let lsn : length (lsn_bytes order) ≡ 8 = omega (arith, length-append (spelled 4 order 0) (spelled 4 order 1), s 4 0, s 4 1) in
    let t0 : List ℕ = h.level ∷ h.page_type ∷ rest in
    let t1 : List ℕ = spelled 2 order h.high_free ++ t0 in
    let t2 : List ℕ = spelled 2 order h.entries ++ t1 in
    let t3 : List ℕ = spelled 4 order h.next ++ t2 in
    let t4 : List ℕ = spelled 4 order h.previous ++ t3 in
    let t5 : List ℕ = spelled 4 order h.number ++ t4 in
    let page : List ℕ = lsn_bytes order ++ t5 in
    let whole : header_bytes order h ++ rest ≡ page =
    append_assoc (lsn_bytes order) _ rest
    ∙ (ap (λ xs. lsn_bytes order ++ xs) (append_assoc (spelled 4 order h.number) _ rest
    ∙ (ap (λ xs. spelled 4 order h.number ++ xs) (append_assoc (spelled 4 order h.previous) _ rest
    ∙ (ap (λ xs. spelled 4 order h.previous ++ xs) (append_assoc (spelled 4 order h.next) _ rest
    ∙ (ap (λ xs. spelled 4 order h.next ++ xs) (append_assoc (spelled 2 order h.entries) _ rest
    ∙ (ap (λ xs. spelled 2 order h.entries ++ xs) (append_assoc (spelled 2 order h.high_free) _ rest)))))))))) in
    let e1 : number_at 4 order page 8 ≡ h.number =
    number_at_past 4 order (lsn_bytes order) t5 8 8 0 lsn refl ∙ number_at-first 4 order h.number t4 fits.number in
    let e2 : number_at 4 order page 12 ≡ h.previous =
    number_at_past 4 order (lsn_bytes order) t5 8 12 4 lsn refl
    ∙ (number_at_past 4 order (spelled 4 order h.number) t4 4 4 0 (s 4 h.number) refl ∙ number_at-first 4 order h.previous t3 fits.previous) in
    let e3 : number_at 4 order page 16 ≡ h.next =
    number_at_past 4 order (lsn_bytes order) t5 8 16 8 lsn refl ∙ (number_at_past 4 order (spelled 4 order h.number) t4 4 8 4 (s 4 h.number) refl
    ∙ (number_at_past 4 order (spelled 4 order h.previous) t3 4 4 0 (s 4 h.previous) refl ∙ number_at-first 4 order h.next t2 fits.next)) in
    let e4 : number_at 2 order page 20 ≡ h.entries =
    number_at_past 2 order (lsn_bytes order) t5 8 20 12 lsn refl ∙ (number_at_past 2 order (spelled 4 order h.number) t4 4 12 8 (s 4 h.number) refl
    ∙ (number_at_past 2 order (spelled 4 order h.previous) t3 4 8 4 (s 4 h.previous) refl
    ∙ (number_at_past 2 order (spelled 4 order h.next) t2 4 4 0 (s 4 h.next) refl ∙ number_at-first 2 order h.entries t1 fits.entries))) in
    let e5 : number_at 2 order page 22 ≡ h.high_free =
    number_at_past 2 order (lsn_bytes order) t5 8 22 14 lsn refl ∙ (number_at_past 2 order (spelled 4 order h.number) t4 4 14 10 (s 4 h.number) refl
    ∙ (number_at_past 2 order (spelled 4 order h.previous) t3 4 10 6 (s 4 h.previous) refl
    ∙ (number_at_past 2 order (spelled 4 order h.next) t2 4 6 2 (s 4 h.next) refl
    ∙ (number_at_past 2 order (spelled 2 order h.entries) t1 2 2 0 (s 2 h.entries) refl ∙ number_at-first 2 order h.high_free t0 fits.high)))) in
    let past : (at : ℕ) → byte_at page (24 + at) ≡ byte_at t0 at =
    λ at. byte_at_past (lsn_bytes order) t5 8 (24 + at) (16 + at) lsn (omega arith)
    ∙ (byte_at_past (spelled 4 order h.number) t4 4 (16 + at) (12 + at) (s 4 h.number) (omega arith)
    ∙ (byte_at_past (spelled 4 order h.previous) t3 4 (12 + at) (8 + at) (s 4 h.previous) (omega arith)
    ∙ (byte_at_past (spelled 4 order h.next) t2 4 (8 + at) (4 + at) (s 4 h.next) (omega arith)
    ∙ (byte_at_past (spelled 2 order h.entries) t1 2 (4 + at) (2 + at) (s 2 h.entries) (omega arith)
    ∙ byte_at_past (spelled 2 order h.high_free) t0 2 (2 + at) at (s 2 h.high_free) (omega arith))))) in
    let e6 : byte_at page 24 ≡ h.level = past 0 in
    let e7 : byte_at page 25 ≡ h.page_type = past 1 in
    ap (header_of order) whole ∙ rw (e1, e2, e3, e4, e5, e6, e7) refl

-- A page without entries.

listed_none : {I : Type 0} (order : Order) (page : List ℕ) (item_at : ℕ → I) (header : Header) → header_of order page ≡ header → entries_of order page ≡ 0
    → listed order page item_at ≡ empty_listed header
unfolding listed
listed_none {I} order page item_at header is none = grind (arith, listing)

pub begun_pages_take_items : BegunPagesTakeItems
begun_pages_take_items order page header legal kind fits =
    let bounds = size_bounds (length page) legal in
    let least = bounds.0 in
    let most = bounds.1 in
    let h : Header = begun_header page header in
    let bytes : List ℕ = header_bytes order h in
    let new : List ℕ = begun_page order page header in
    let written : length bytes ≡ 26 = length-header order h in
    let long : length new ≡ length page = length-overwritten page 0 bytes (omega (arith, least, written)) in
    let is : header_of order new ≡ h =
    header_read order h (drop (0 + length bytes) page)
    (record { number = fits.number; previous = fits.previous; next = fits.next; entries = omega arith; high = omega (arith, most) }) in
    let none : entries_of order new ≡ 0 = ap (λ (x : Header). x.entries) is in
    let high : two_at order new 22 ≡ length page = ap (λ (x : Header). x.high_free) is in
    let type : byte_at new 25 ≡ header.page_type = ap (λ (x : Header). x.page_type) is in
    let some : Takes header.page_type = takes header.page_type kind in
    let pages : page_as order new (page_type header.page_type) ≡ empty_page (page_type header.page_type) h =
    by_type (λ t. page_as order new (page_type t) ≡ empty_page (page_type t) h) (2 ∷ 3 ∷ 4 ∷ 5 ∷ 6 ∷ 12 ∷ 13 ∷ []) header.page_type kind (
      ap (λ l. Hash l) (listed_none order new _ h is none),
      (
        ap (λ l. Internal l) (listed_none order new _ h is none),
        (
          ap (λ l. RecnoInternal l) (listed_none order new _ h is none),
          (
            ap (λ l. Leaf l) (listed_none order new _ h is none),
            (
              ap (λ l. RecnoLeaf l) (listed_none order new _ h is none),
              (
                ap (λ l. DupLeaf l) (listed_none order new _ h is none),
                (ap (λ l. Hash l) (listed_none order new _ h is none), tt),
              ),
            ),
          ),
        ),
      ),
    ) in (
      typed order new header.page_type (omega (arith, least, long)) some.some type ∙ pages,
      record {
        size = ap is_page_size long ∙ legal;
        type = ap takes_items type ∙ kind;
        room = omega (arith, none, high, least);
        high = omega (arith, high, long);
        above = λ i low. absurd (omega (arith, low, none));
        least = λ one. absurd (omega (arith, one, none));
        empty = λ e. high ∙ sym long;
        items = λ i low. absurd (omega (arith, low, none));
      },
    )
