-- A page of a chain is read, and has no row of form.
use Rattle.std.proofs.Common.{◌≡◌, ℕ, ◌+◌, ◌^◌, ◌<◌, ◌≤◌, Bool, true, false, cond, not, List, ◌++◌, length, take, drop, replicate, arith, refl, ◌∙◌, ap}
use Rattle.bdb_pack.proofs.Common.{◌==◌, nat_lt, eq-eqb, drop_at, length-take-le, take_at, Order, Header, Overflow, body_code, byte_at, four_at, header_bytes, header_of, overwritten, page_type}
use Rattle.bdb_pack.proofs.Common.{two_at, size_bounds, above, ChainPagesAreFormed, chain_page, piece_header, piece_length, piece_next}
use Rattle.bdb_pack.proofs.FormLemmas.{code_none}
use Rattle.bdb_pack.proofs.HeaderLemmas.{Fits, header_read, length-header}
use Rattle.bdb_pack.proofs.StandingLemmas.{not_zero, typed}
use Rattle.bdb_pack.proofs.ValueLemmas.{length-chain_page}

-- the bytes of a page of a chain: its header, what it holds of the value, and zeros
page_parts : (order : Order) (size number previous : ℕ) (rest : List ℕ) → 26 ≤ size
    → (tail : List ℕ) × (chain_page order size number previous rest
    ≡ header_bytes order (piece_header number previous (piece_next size number rest) (piece_length size rest)) ++ (take (piece_length size rest) rest ++ tail))
page_parts order size number previous rest room =
    let hb : List ℕ = header_bytes order (piece_header number previous (piece_next size number rest) (piece_length size rest)) in
    let first : List ℕ = overwritten (replicate size 0) 0 hb in
    let long : length hb ≡ 26 = length-header order (piece_header number previous (piece_next size number rest) (piece_length size rest)) in
    let piece : List ℕ = take (piece_length size rest) rest in
    (drop (26 + length piece) first, ap (λ xs. xs ++ (piece ++ drop (26 + length piece) first)) (take_at hb (drop (0 + length hb) (replicate size 0)) 26 long))

pub chain_pages_are_formed : ChainPagesAreFormed
chain_pages_are_formed order size number previous rest legal low before =
    let bounds = size_bounds size legal in
    let n : ℕ = piece_length size rest in
    let next : ℕ = piece_next size number rest in
    let h : Header = piece_header number previous next n in
    let piece : List ℕ = take n rest in
    let page : List ℕ = chain_page order size number previous rest in
    let parts = page_parts order size number previous rest (omega (arith, bounds.0)) in
    let next_low : next < 2 ^ 32 = next_fits (nat_lt n (length rest)) number low in
    let fits : Fits h = record { number = omega arith; previous = before; next = next_low; entries = omega arith; high = omega (arith, bounds.1) } in
    let header : header_of order page ≡ h = ap (header_of order) parts.1 ∙ header_read order h (piece ++ parts.0) fits in
    let seven : byte_at page 25 ≡ 7 = ap (λ (x : Header). x.page_type) header in
    let high : two_at order page 22 ≡ n = ap (λ (x : Header). x.high_free) header in
    let own : four_at order page 8 ≡ number = ap (λ (x : Header). x.number) header in
    let long : length piece ≡ n = length-take-le n rest (omega arith) in
    let size_is : length page ≡ size = length-chain_page order size number previous rest (omega (arith, bounds.0)) in
    let behind : drop 26 page ≡ piece ++ parts.0 = ap (drop 26) parts.1 ∙ drop_at (header_bytes order h) (piece ++ parts.0) 26 (length-header order h) in
    let body : take (two_at order page 22) (drop 26 page) ≡ piece =
    ap (λ k. take k (drop 26 page)) high ∙ (ap (take n) behind ∙ take_at piece parts.0 n long) in
    let enough : 25 < length page = omega (arith, size_is, bounds.0) in
    let numbered : not (four_at order page 8 == number) ≡ false = ap not (eq-eqb (four_at order page 8) number own) in
    let room : nat_lt (length page) (26 + two_at order page 22) ≡ false =
    above (length page) (26 + two_at order page 22) (omega (arith, high, size_is, bounds.0)) in (
      typed order page 7 enough refl seven ∙ (ap (λ x. Overflow x (take (two_at order page 22) (drop 26 page))) header ∙ ap (Overflow h) body),
      code_none order number page (not_zero page enough (ap (λ b. b == 0) seven)) (rw (numbered, seven) refl)
          (ap (λ b. body_code order page (page_type b)) seven ∙ (rw room refl)),
      seven,
      ap (λ (x : Header). x.entries) header,
      size_is,
    )
  where
    next_fits : (b : Bool) (number : ℕ) → number + 1 < 2 ^ 32 → cond b (number + 1) 0 < 2 ^ 32
    next_fits true number low = low
    next_fits false number low = omega arith
