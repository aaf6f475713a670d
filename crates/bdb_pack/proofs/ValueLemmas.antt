-- A value that is stored page by page.
use Rattle.std.proofs.Common.{◌≡◌, ℕ, suc, min, ◌+◌, ◌-◌, ◌*◌, ◌^◌, ◌<◌, ◌≤◌, List, [], length, take, drop, replicate, arith, ◌∙◌, ap, subst, length-append, length-drop}
use Rattle.bdb_pack.proofs.Common.{append_assoc, append-nil, get_or_push, length-replicate, length-take-le, set_at, Order, header_bytes, overwritten, length-overwritten, AreWhole, Built, bytes_of}
use Rattle.bdb_pack.proofs.Common.{with_zeros, written_over, AreChainPages, HasChain, chain_page, piece_header, piece_length, piece_next, with_piece, IsBegunChain}
use Rattle.bdb_pack.proofs.HeaderLemmas.{length-header}
use Rattle.bdb_pack.proofs.CutLemmas.{suc-times, written_whole, zeros_whole}

-- a page of a chain has the size of a page
pub length-chain_page : (order : Order) (size number previous : ℕ) (rest : List ℕ) → 26 ≤ size → length (chain_page order size number previous rest) ≡ size
length-chain_page order size number previous rest room =
    let header : List ℕ = header_bytes order (piece_header number previous (piece_next size number rest) (piece_length size rest)) in
    let blank : List ℕ = replicate size 0 in
    let zeros : length blank ≡ size = length-replicate size 0 in
    let h : length header ≡ 26 = length-header order (piece_header number previous (piece_next size number rest) (piece_length size rest)) in
    let start : List ℕ = overwritten blank 0 header in
    let long : length start ≡ size = length-overwritten blank 0 header (omega (arith, zeros, h)) ∙ zeros in
    let piece : length (take (piece_length size rest) rest) ≡ piece_length size rest = length-take-le (piece_length size rest) rest (omega arith) in
    length-overwritten start 26 (take (piece_length size rest) rest) (omega (arith, long, piece)) ∙ long

-- a zero page was added, and a page of a chain written on it
pub piece_added : (old added : Built) (number previous next n : ℕ) (order : Order) (rest page new : List ℕ) → added ≡ with_zeros old
    → number ≡ length old.pages → AreWhole old → 26 ≤ old.size → order ≡ old.order
    → n ≡ piece_length old.size rest → next ≡ piece_next old.size number rest → page ≡ bytes_of added number
    → new ≡ overwritten (overwritten page 0 (header_bytes order (piece_header number previous next n))) 26 (take n rest)
    → written_over added number new ≡ with_piece old previous rest
piece_added old added number previous next n order rest page new zeros at_end whole room ordered taken after lent is =
    grind (arith, get_or_push, length-append, written_whole, zeros_whole, length-chain_page, set_at)

-- The pages that are left.

-- bytes that fit on the pages that are left ask for one of them
pub page_left : (limit count room : ℕ) (n : ℕ) → 0 < n → n ≤ (limit - count) * room → count < limit
page_left limit count room n some fits = grind arith

-- and where one page is filled, the rest of them fits on the others
pub rest_fits : (limit count room n k : ℕ) → 0 < n → n ≤ (limit - count) * room → k ≡ min room n → n - k ≤ (limit - (count + 1)) * room
rest_fits limit count room n k some fits taken =
    let one : count < limit = page_left limit count room n some fits in
    let e : limit - count ≡ suc (limit - (count + 1)) = omega (arith, one) in
    let f : suc (limit - (count + 1)) * room ≡ room + (limit - (count + 1)) * room = suc-times (limit - (count + 1)) room in
    let g : n ≤ room + (limit - (count + 1)) * room = subst (λ x. n ≤ x) (ap (λ x. x * room) e ∙ f) fits in
    omega (arith, g, taken)

-- The loop.

pub begun_chain : (old : Built) (value : List ℕ) → length value ≤ (2 ^ 21 - length old.pages) * (old.size - 26)
    → IsBegunChain old old value (length old.pages) 0 value
begun_chain old value few = grind (arith, append-nil)

pub next_piece : (old now new : Built) (value : List ℕ) (head previous number n : ℕ) (rest after : List ℕ) → IsBegunChain old now value head previous rest
    → 26 < old.size → 0 < length rest → new ≡ with_piece now previous rest → number ≡ length now.pages
    → n ≡ piece_length now.size rest → after ≡ drop n rest → IsBegunChain old new value head number after
next_piece old now new value head previous number n rest after begun room some is at_end taken left =
    grind (arith, length-append, length-drop, rest_fits, append_assoc)

pub whole_chain : (old now : Built) (value : List ℕ) (head previous : ℕ) (rest : List ℕ) → IsBegunChain old now value head previous rest → rest ≡ []
    → head ≡ length old.pages → HasChain old now value head
whole_chain old now value head previous rest begun none first = record {
  size = begun.size;
  order = begun.order;
  first = first;
  added = begun.added;
  pages = begun.pages;
  chain = subst (AreChainPages old.order old.size head 0 value) (append-nil begun.added) (begun.chain [] none);
}
