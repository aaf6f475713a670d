-- A whole chain, page by page: enough turns are enough, and what comes after a page is whole.
use Rattle.std.proofs.Common.{◌≡◌, ◌⊎◌, ℕ, zero, suc, ◌+◌, ◌*◌, ◌/◌, ◌<◌, ◌≤◌, Bool, true, false, cond, List, [], ◌∷◌, map, length, take, drop, arith, refl}
use Rattle.std.proofs.Common.{sym, ◌∙◌, ap, inl, inr, length-append, length-drop, length-take, ◌==◌}
use Rattle.std.proofs.lemmas.Bool.{eq-eqb, ne_eqb}
use Rattle.std.proofs.lemmas.List.{length-map, length-take-le}
use Rattle.std.proofs.lemmas.List.Folds.{list_all_at}
use Rattle.std.proofs.lemmas.List.FromFn.{get_or-map-range_with_len}
use Rattle.std.proofs.Math.Nat.{mul-le-mul_right}
use Rattle.bdb_graph.specs.of_format.declared.kinds.Order.{Order}
use Rattle.bdb_graph.specs.of_format.Terms.{File, NoType, Overflow, abstract_page, byte_at, chain_in, file_as, header_in, header_of, is_page_size, is_zero}
use Rattle.bdb_graph.specs.of_format.Terms.{joined, next_of, page_as, page_at, page_type, piece_in, pieces_of, two_at}
use Rattle.bdb_overflow.specs.Whole.{EndsIn, IsLeft, IsLink, IsWholeChain, bytes_of, next_at, pieces_from}
use Rattle.bdb_graph.proofs.of_format.GraphLemmas.{typed_page}
use Rattle.bdb_graph.proofs.of_format.ChainLemmas.{chain_few}
use Rattle.bdb_graph.proofs.of_format.SizeLemmas.{size_bounds}

-- Pages.

-- a page lies within its image
pub page_room : (n size p : ℕ) → 1 ≤ size → p < n / size → p * size + size ≤ n
page_room n size p some there = grind (arith, mul-le-mul_right)

pub page_length : (size : ℕ) (image : List ℕ) (p : ℕ) → 1 ≤ size → p < length image / size → length (bytes_of size image p) ≡ size
page_length size image p some there =
    length-take-le size (drop (p * size) image) (omega (arith, page_room (length image) size p some there, length-drop (p * size) image))

-- a page of type 7 isn't a zero page
not_zero : (page : List ℕ) → byte_at page 25 ≡ 7 → 26 ≤ length page → is_zero page ≡ false
not_zero page seven long = list_all_at (λ b. b == 0) page 25 0 (omega arith) (ap (λ b. b == 0) seven)

pub overflow_page : (order : Order) (page : List ℕ) → byte_at page 25 ≡ 7 → 26 ≤ length page
    → abstract_page order page ≡ Overflow (header_of order page) (take (two_at order page 22) (drop 26 page))
overflow_page order page seven long = typed_page order page (not_zero page seven long) ∙ ap (λ b. page_as order page (page_type b)) seven

pub page_as_is : (order : Order) (size : ℕ) (image : List ℕ) (p : ℕ) → p < length image / size → page_at (file_as order size image) p
    ≡ abstract_page order (bytes_of size image p)
unfolding file_as
page_as_is order size image p there =
    get_or-map-range_with_len (λ q. abstract_page order (bytes_of size image q)) 0 (length image / size) p p NoType there (omega arith)

-- the data on a page of a chain
abbrev pub data_at : Order → ℕ → List ℕ → ℕ → List ℕ
data_at order size image p = take (two_at order (bytes_of size image p) 22) (drop 26 (bytes_of size image p))

link_page : (order : Order) (size : ℕ) (image : List ℕ) (p : ℕ) → 26 ≤ size → IsLink order size image p
    → page_at (file_as order size image) p ≡ Overflow (header_of order (bytes_of size image p)) (data_at order size image p)
link_page order size image p long link = grind (arith, page_as_is, overflow_page, page_length)

pub link_next : (order : Order) (size : ℕ) (image : List ℕ) (p : ℕ) → 26 ≤ size → IsLink order size image p → next_of (file_as order size image) p
    ≡ next_at order size image p
link_next order size image p long link = ap (λ page. (header_in page).next) (link_page order size image p long link)

pub link_piece : (order : Order) (size : ℕ) (image : List ℕ) (p : ℕ) → 26 ≤ size → IsLink order size image p → piece_in (page_at (file_as order size image) p)
    ≡ data_at order size image p
link_piece order size image p long link = ap piece_in (link_page order size image p long link)

-- Turns.

-- one turn more is enough too
ends_later : (turns : ℕ) (order : Order) (size : ℕ) (image : List ℕ) (p : ℕ) → EndsIn turns order size image p → EndsIn (suc turns) order size image p
ends_later zero order size image p ends = absurd ends
ends_later (suc turns) order size image p ends =
    (ends.0, elim ends.1 [ inl last ↦ inl last | inr more ↦ inr (ends_later turns order size image (next_at order size image p) more) ])

-- the pieces of the pages of a chain, in this many turns
abbrev pub pieces_in : ℕ → File → ℕ → List (List ℕ)
pieces_in turns file p = map (λ q. piece_in (page_at file q)) (chain_in turns file p)

-- one page, and those after it
abbrev pub after_piece : Bool → List ℕ → List (List ℕ) → List (List ℕ)
after_piece last piece rest = piece ∷ cond last [] rest

pub pieces_turn : (turns : ℕ) (file : File) (p : ℕ)
    → pieces_in (suc turns) file p ≡ after_piece (next_of file p == 0) (piece_in (page_at file p)) (pieces_in turns file (next_of file p))
unfolding chain_in
pieces_turn turns file p = grind arith

-- a page of a chain in one turn more than the rest of it takes
link_turn : (turns : ℕ) (order : Order) (size : ℕ) (image : List ℕ) (p : ℕ) → 26 ≤ size → IsLink order size image p
    → pieces_in (suc turns) (file_as order size image) p ≡ after_piece (next_at order size image p == 0) (data_at order size image p)
    (pieces_in turns (file_as order size image) (next_at order size image p))
link_turn turns order size image p long link = grind (arith, pieces_turn, link_next, link_piece)

-- enough turns are enough: one more gives the same pieces
enough : (turns : ℕ) (order : Order) (size : ℕ) (image : List ℕ) (p : ℕ) → 26 ≤ size → EndsIn turns order size image p
    → pieces_in turns (file_as order size image) p ≡ pieces_in (suc turns) (file_as order size image) p
enough zero order size image p long ends = absurd ends
enough (suc turns) order size image p long ends =
    let file : File = file_as order size image in
    let next : ℕ = next_at order size image p in
    link_turn turns order size image p long ends.0
    ∙ (elim ends.1 [
      | inl last ↦ rw (eq-eqb next 0 last) refl
      | inr more ↦ ap (after_piece (next == 0) (data_at order size image p)) (enough turns order size image next long more)
    ]
    ∙ sym (link_turn (suc turns) order size image p long ends.0))

-- What is left.

long_enough : (size : ℕ) → is_page_size size ≡ true → 26 ≤ size
long_enough size legal = omega (arith, (size_bounds size legal).0)

-- the first page of a whole chain
first_link : (turns : ℕ) (order : Order) (size : ℕ) (image : List ℕ) (p : ℕ) → EndsIn turns order size image p → IsLink order size image p
first_link zero order size image p ends = absurd ends
first_link (suc turns) order size image p ends = ends.0

pub whole_link : (order : Order) (size : ℕ) (image : List ℕ) (p : ℕ) → IsWholeChain order size image p → IsLink order size image p
whole_link order size image p whole = first_link (length image / size) order size image p whole.ends

rest_of : (turns : ℕ) (order : Order) (size : ℕ) (image : List ℕ) (p : ℕ) → EndsIn turns order size image p
    → (next_at order size image p ≡ 0) ⊎ EndsIn turns order size image (next_at order size image p)
rest_of zero order size image p ends = absurd ends
rest_of (suc turns) order size image p ends = grind (arith, ends_later)

-- what comes after a page of a whole chain is nothing, or a whole chain
pub whole_rest : (order : Order) (size : ℕ) (image : List ℕ) (p : ℕ) → IsWholeChain order size image p → (next_at order size image p ≡ 0)
    ⊎ IsWholeChain order size image (next_at order size image p)
whole_rest order size image p whole =
    elim (rest_of (length image / size) order size image p whole.ends) [ inl last ↦ inl last | inr more ↦ inr (record { ends = more }) ]

pieces_step : (turns : ℕ) (order : Order) (size : ℕ) (image : List ℕ) (p : ℕ) → 26 ≤ size → EndsIn turns order size image p
    → pieces_in turns (file_as order size image) p ≡ after_piece (next_at order size image p == 0) (data_at order size image p)
    (pieces_in turns (file_as order size image) (next_at order size image p))
pieces_step turns order size image p long ends =
    enough turns order size image p long ends ∙ link_turn turns order size image p long (first_link turns order size image p ends)

-- the pieces of a whole chain: that of its first page, and those from the next page on
pub pieces_from_cons : (order : Order) (size : ℕ) (image : List ℕ) (p : ℕ) → is_page_size size ≡ true → IsWholeChain order size image p
    → pieces_from order size image p ≡ data_at order size image p ∷ pieces_from order size image (next_at order size image p)
unfolding pieces_from pieces_of file_as
pieces_from_cons order size image p legal whole = grind (arith, whole_link, ne_eqb, pieces_step, long_enough)

pub at_end : (order : Order) (size : ℕ) (image : List ℕ) (p : ℕ) → p ≡ 0 → pieces_from order size image p ≡ []
unfolding pieces_from
at_end order size image p last = rw (eq-eqb p 0 last) refl

-- where something is left, it's a whole chain
pub left_whole : (order : Order) (size : ℕ) (image : List ℕ) (p : ℕ) → IsLeft order size image p → (p ≡ 0 → ⊥) → IsWholeChain order size image p
left_whole order size image p left more = elim left.rest [ inl last ↦ absurd (more last) | inr whole ↦ whole ]

-- a whole chain as what is left
pub all_left : (order : Order) (size : ℕ) (image : List ℕ) (p : ℕ) → is_page_size size ≡ true → IsWholeChain order size image p → IsLeft order size image p
all_left order size image p legal whole = record { legal = legal; rest = inr whole }

pub after_left : (order : Order) (size : ℕ) (image : List ℕ) (p : ℕ) → is_page_size size ≡ true → IsWholeChain order size image p
    → IsLeft order size image (next_at order size image p)
after_left order size image p legal whole = record { legal = legal; rest = whole_rest order size image p whole }

-- all pieces of a chain are those of its pages
pub pieces_from_all : (order : Order) (size : ℕ) (image : List ℕ) (p : ℕ) → IsWholeChain order size image p → pieces_from order size image p
    ≡ pieces_of (file_as order size image) p
unfolding pieces_from
pieces_from_all order size image p whole = rw (ne_eqb p 0 (omega (arith, (whole_link order size image p whole).low))) refl

-- a chain has no more pieces than the file has pages
pub pieces_few : (file : File) (p : ℕ) → length (pieces_of file p) ≤ file.count
unfolding pieces_of
pieces_few file p = omega (arith, length-map (chain_in file.count file p) (λ q. piece_in (page_at file q)), chain_few file.count file p)

pub count_as : (order : Order) (size : ℕ) (image : List ℕ) → (file_as order size image).count ≡ length image / size
unfolding file_as
count_as order size image = refl

pub pieces_few_as : (order : Order) (size : ℕ) (image : List ℕ) (p : ℕ) → length (pieces_of (file_as order size image) p) ≤ length image / size
pieces_few_as order size image p = omega (arith, pieces_few (file_as order size image) p, count_as order size image)

-- nothing is left of any chain
pub none_left : (order : Order) (image : List ℕ) → IsLeft order 512 image 0
none_left order image = record { legal = refl; rest = inl refl }

-- Lengths.

joined_cons : (piece : List ℕ) (rest : List (List ℕ)) → length (joined (piece ∷ rest)) ≡ length piece + length (joined rest)
joined_cons piece rest = length-append piece (joined rest)

data_short : (order : Order) (size : ℕ) (image : List ℕ) (p : ℕ) → length (data_at order size image p) ≤ size
data_short order size image p =
    let page : List ℕ = bytes_of size image p in
    omega (arith, length-take (two_at order page 22) (drop 26 page), length-drop 26 page, length-take size (drop (p * size) image))

-- a page of a chain holds no more than a page, and so do the pages after it
chain_short : (turns : ℕ) (order : Order) (size : ℕ) (image : List ℕ) (p : ℕ) → 26 ≤ size → EndsIn turns order size image p
    → length (joined (pieces_in turns (file_as order size image) p)) ≤ turns * size
chain_short zero order size image p long ends = absurd ends
chain_short (suc turns) order size image p long ends =
    let file : File = file_as order size image in
    let next : ℕ = next_at order size image p in
    let piece : List ℕ = data_at order size image p in
    rw (link_turn turns order size image p long ends.0)
    (elim ends.1 [
      | inl last ↦ rw (eq-eqb next 0 last) (omega (arith, joined_cons piece [], data_short order size image p))
      | inr more ↦
          elim (next == 0) as (λ b. length (joined (after_piece b piece (pieces_in turns file next))) ≤ suc turns * size) [
            | true ↦ omega (arith, joined_cons piece [], data_short order size image p)
            | false ↦ omega (
              arith,
              joined_cons piece (pieces_in turns file next),
              data_short order size image p,
              chain_short turns order size image next long
                  more,
            )
          ]
    ])

within : (n size : ℕ) → 1 ≤ size → n / size * size ≤ n
within n size some = omega arith

-- what is left of a chain isn't longer than the image
pub left_short : (order : Order) (size : ℕ) (image : List ℕ) (p : ℕ) → IsLeft order size image p
    → length (joined (pieces_from order size image p)) ≤ length image
unfolding pieces_of file_as
left_short order size image p left = grind (arith, at_end, chain_short, long_enough, pieces_from_all, within)
