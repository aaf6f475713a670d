-- Four bytes that are put together from pieces.
use Rattle.std.proofs.Common.{◌≡◌, ℕ, ◌+◌, ◌≤◌, List, [], ◌∷◌, ◌++◌, length, take, arith, sym, ◌∙◌, ap, append_assoc, length-append}
use Rattle.std.proofs.lemmas.List.{append-nil, length-take-le, take_all}
use Rattle.bdb_rescue.specs.of_format.Terms.{joined}

-- a piece more
pub piece_more : (put now piece all : List ℕ) (old left : List (List ℕ)) → put ++ joined old ≡ all → old ≡ piece ∷ left → now ≡ put ++ piece
    → now ++ joined left ≡ all
piece_more put now piece all old left parts more is =
    ap (λ xs. xs ++ joined left) is ∙ (append_assoc put piece (joined left) ∙ (ap (λ ps. put ++ joined ps) (sym more) ∙ parts))

-- there is room for it
pub piece_fits : (four : List ℕ) (at : ℕ) (piece all : List ℕ) (old left : List (List ℕ)) → length four ≡ 4 → at ≤ 4 → take at four ++ joined old ≡ all
    → length all ≡ 4 → old ≡ piece ∷ left → at + length piece ≤ 4
piece_fits four at piece all old left len within parts is more =
    let whole : length (take at four ++ (piece ++ joined left)) ≡ 4 = ap length (ap (λ ps. take at four ++ joined ps) (sym more) ∙ parts) ∙ is in
    let put : length (take at four) ≡ at = length-take-le at four (omega (arith, within, len)) in
    omega (arith, whole, put, length-append (take at four) (piece ++ joined left), length-append piece (joined left))

-- none is left
pub pieces_end : (four : List ℕ) (at : ℕ) (all : List ℕ) (left : List (List ℕ)) → length four ≡ 4 → at ≤ 4 → take at four ++ joined left ≡ all → length all ≡ 4
    → left ≡ [] → four ≡ all
pieces_end four at all left len within parts is none =
    let whole : take at four ≡ all = sym (append-nil (take at four)) ∙ (ap (λ ps. take at four ++ joined ps) (sym none) ∙ parts) in
    let put : length (take at four) ≡ at = length-take-le at four (omega (arith, within, len)) in
    let four_put : at ≡ 4 = sym put ∙ (ap length whole ∙ is) in
    sym (take_all at four (omega (arith, len, four_put))) ∙ whole
