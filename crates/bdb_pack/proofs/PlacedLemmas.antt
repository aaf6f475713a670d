-- What is read from a page after an entry is added, and after an item is placed.
use Rattle.std.proofs.Common.{◌≡◌, ℕ, ◌+◌, ◌*◌, ◌<◌, ◌≤◌, List, ◌++◌, length, drop, arith, refl, ◌∙◌}
use Rattle.bdb_pack.proofs.Common.{Order, byte_at, entries_of, header_of, index_end, number_at, offset_of, overwritten, pad4, spelled, two_at, length-overwritten, length-spelled, extent, HasRoom}
use Rattle.bdb_pack.proofs.Common.{IsOpen, entered, high_free_of, page_and_item, place_below, placed, with_entry}
use Rattle.bdb_pack.proofs.PlaceLemmas.{behind, byte_before, byte_same, drop_same, from_here, number_before, number_here, number_same}

-- What is read from a page after an entry is added.
pub record IsEntered (order : Order) (page new : List ℕ) (at high : ℕ) : Type 0 where
  pub long : length new ≡ length page
  pub low : (n x : ℕ) → x + n ≤ 20 → number_at n order new x ≡ number_at n order page x
  pub level : byte_at new 24 ≡ byte_at page 24
  pub type : byte_at new 25 ≡ byte_at page 25
  pub entries : two_at order new 20 ≡ entries_of order page + 1
  pub top : two_at order new 22 ≡ high
  pub index : (k : ℕ) → k < entries_of order page → offset_of order new k ≡ offset_of order page k
  pub last : offset_of order new (entries_of order page) ≡ at

pub is_entered : (order : Order) (page : List ℕ) (at high : ℕ) → IsOpen order page → index_end order page + 2 ≤ length page → at < 65536 → high < 65536
    → IsEntered order page (entered order page at high) at high
    × (drop (index_end order page + 2) (entered order page at high) ≡ drop (index_end order page + 2) page)
is_entered order page at high free room fits_at fits_high =
    let n : ℕ = entries_of order page in
    let end : ℕ = index_end order page in
    let small : length page ≤ 32768 = free.most in
    let a : List ℕ = spelled 2 order at in
    let c : List ℕ = spelled 2 order (n + 1) in
    let b : List ℕ = spelled 2 order high in
    let la : length a ≡ 2 = length-spelled 2 order at in
    let lc : length c ≡ 2 = length-spelled 2 order (n + 1) in
    let lb : length b ≡ 2 = length-spelled 2 order high in
    let p1 : List ℕ = overwritten page end a in
    let p2 : List ℕ = overwritten p1 20 c in
    let p3 : List ℕ = overwritten p2 22 b in
    let l1 : length p1 ≡ length page = length-overwritten page end a (omega arith) in
    let l2 : length p2 ≡ length page = length-overwritten p1 20 c (omega arith) ∙ l1 in
    let l3 : length p3 ≡ length page = length-overwritten p2 22 b (omega arith) ∙ l2 in
    let d3 : drop 24 p3 ≡ drop 24 p2 = behind p2 22 b 24 (omega arith) (omega arith) in
    let d2 : drop 22 p2 ≡ drop 22 p1 = behind p1 20 c 22 (omega arith) (omega arith) in
    let d : drop 24 p3 ≡ drop 24 p1 = d3 ∙ drop_same p2 p1 22 24 d2 (omega arith) in (
      record {
        long = l3;
        low = λ k x under.
            number_before k order p2 22 b x (omega arith) (omega arith) ∙ (number_before k order p1 20 c x (omega arith) (omega arith)
            ∙ number_before k order page end a x (omega arith) (omega arith));
        level = byte_same p3 p1 24 24 d (omega arith) ∙ byte_before page end a 24 (omega arith) (omega arith);
        type = byte_same p3 p1 24 25 d (omega arith) ∙ byte_before page end a 25 (omega arith) (omega arith);
        entries = number_before 2 order p2 22 b 20 (omega arith) (omega arith) ∙ number_here 2 order p1 20 (n + 1) (omega arith) (omega arith);
        top = number_here 2 order p2 22 high (omega arith) (omega arith);
        index = λ k low. number_same 2 order p3 p1 24 (26 + 2 * k) d (omega arith) ∙ number_before 2 order page end a (26 + 2 * k) (omega arith) (omega arith);
        last = number_same 2 order p3 p1 24 end d (omega arith) ∙ number_here 2 order page end at (omega arith) (omega arith);
      },
      drop_same p3 p1 24 (end + 2) d (omega arith) ∙ behind page end a (end + 2) (omega arith) (omega arith),
    )

-- What is read from a page after an item is placed, whose bytes stand from `at` up to the items before it.
pub record IsPlaced (order : Order) (page new : List ℕ) (at : ℕ) (piece : List ℕ) : Type 0 where
  pub entry : IsEntered order page new at at
  pub body : drop (high_free_of order page) new ≡ drop (high_free_of order page) page
  pub here : drop at new ≡ piece ++ drop (at + length piece) page

pub is_placed : (order : Order) (page : List ℕ) (at : ℕ) (piece : List ℕ) → IsOpen order page → index_end order page + 2 ≤ at
    → at + length piece ≤ high_free_of order page
    → IsPlaced order page (placed order page at piece) at piece
is_placed order page at piece free room fits = grind (arith, is_entered, length-overwritten, number_before, byte_before, behind, drop_same, from_here)

-- rounding up to a multiple of 4 takes nothing off
pub pad-le : (n : ℕ) → n ≤ pad4 n
pad-le n = grind arith

pub extent-le : (type n : ℕ) → n ≤ extent type n
extent-le type n = grind (arith, pad-le)

-- an item right below the others
pub is_below : (order : Order) (page : List ℕ) (piece : List ℕ) → IsOpen order page → HasRoom order page (length piece)
    → IsPlaced order page (page_and_item order page piece) (place_below order page (length piece)) piece
is_below order page piece free room = grind (arith, extent-le, is_placed)

pub header_entered : (order : Order) (page new : List ℕ) (at high : ℕ) → IsEntered order page new at high
    → header_of order new ≡ with_entry (header_of order page) high
header_entered order page new at high is =
    rw (is.low 4 8 (omega arith), is.low 4 12 (omega arith), is.low 4 16 (omega arith), is.entries, is.top, is.level, is.type) refl
