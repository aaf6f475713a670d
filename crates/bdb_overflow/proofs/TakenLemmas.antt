-- Pieces with bytes, and the pages that are passed over.
use Rattle.std.proofs.Common.{◌≡◌, ℕ, zero, suc, ◌/◌, ◌≤◌, true, List, [], ◌∷◌, ◌++◌, length, arith, refl, sym, ◌∙◌, ap, subst, Option, Some, None}
use Rattle.bdb_graph.specs.of_format.declared.kinds.Order.{Order}
use Rattle.bdb_graph.specs.of_format.Terms.{Overflow, file_as, file_of, head_of, header_in, header_of, is_page_size, joined, next_of, page_at, piece_in}
use Rattle.bdb_graph.specs.of_format.Terms.{pieces_of}
use Rattle.bdb_graph.proofs.of_format.FileLemmas.{last_page, page_is}
use Rattle.bdb_graph.proofs.of_format.SizeLemmas.{size_bounds}
use Rattle.bdb_graph.specs.Blanks.{ArePassedIfAny as AreKnownPassed, ComesAfter}
use Rattle.bdb_graph.specs.of_image.Linked.{IsForest}
use Rattle.bdb_overflow.specs.Taken.{ArePassedIfAny, StandsFor, full_pieces, taken_pieces}
use Rattle.bdb_overflow.specs.Whole.{IsLeft, IsLink, IsWholeChain, bytes_of, next_at, pieces_from}
use Rattle.bdb_overflow.specs.declared.taken.Taken.{Taken}
use Rattle.bdb_overflow.specs.declared.taken.Taken.TheVariants.{Each, WithData}
use Rattle.bdb_overflow.proofs.LinkedLemmas.{legal_size, linked_whole, linked_pieces, count_is}
use Rattle.bdb_overflow.proofs.WholeLemmas.{after_left, data_at, left_short, left_whole, overflow_page, page_length, pieces_few_as, pieces_from_all}
use Rattle.bdb_overflow.proofs.WholeLemmas.{pieces_from_cons, whole_link}

-- Pieces with bytes.

pub joined_full : (pieces : List (List ℕ)) → joined (full_pieces pieces) ≡ joined pieces
joined_full [] = refl
joined_full ([] ∷ rest) = joined_full rest
joined_full ((byte ∷ bytes) ∷ rest) = ap (λ joined'. (byte ∷ bytes) ++ joined') (joined_full rest)

full_few : (pieces : List (List ℕ)) → length (full_pieces pieces) ≤ length pieces
full_few [] = omega arith
full_few ([] ∷ rest) = omega (arith, full_few rest)
full_few ((byte ∷ bytes) ∷ rest) = omega (arith, full_few rest)

pub taken_joined : (taken : Taken) (pieces : List (List ℕ)) → joined (taken_pieces taken pieces) ≡ joined pieces
taken_joined Each pieces = refl
taken_joined (WithData blanks) pieces = joined_full pieces

-- what is left isn't longer than the image
pub taken_short : (order : Order) (size : ℕ) (image : List ℕ) (p : ℕ) (taken : Taken) → IsLeft order size image p
    → length (joined (taken_pieces taken (pieces_from order size image p))) ≤ length image
taken_short order size image p taken left = omega (arith, ap length (taken_joined taken (pieces_from order size image p)), left_short order size image p left)

pub full_from_all : (order : Order) (size : ℕ) (image : List ℕ) (p : ℕ) → IsWholeChain order size image p
    → full_pieces (pieces_from order size image p) ≡ full_pieces (pieces_of (file_as order size image) p)
full_from_all order size image p whole = ap full_pieces (pieces_from_all order size image p whole)

pub full_few_as : (order : Order) (size : ℕ) (image : List ℕ) (p : ℕ) → length (full_pieces (pieces_of (file_as order size image) p)) ≤ length image / size
full_few_as order size image p = omega (arith, full_few (pieces_of (file_as order size image) p), pieces_few_as order size image p)

-- a piece without bytes is left out
pub blank_first : (piece : List ℕ) (rest : List (List ℕ)) → piece ≡ [] → full_pieces (piece ∷ rest) ≡ full_pieces rest
blank_first [] rest blank = refl
blank_first (byte ∷ bytes) rest blank = absurd cc

-- Pages that are passed over.

-- a page stands for itself
pub itself : (order : Order) (size : ℕ) (image : List ℕ) (p q : ℕ) → q ≡ p → IsLeft order size image p → StandsFor order size image p q
itself order size image p q is left = subst (StandsFor order size image p) (sym is) (record { left = left; same = refl; few = omega arith })

-- what a page of a chain is, in the file
page_here : (image : List ℕ) (p : ℕ) → 26 ≤ (head_of image).page_size → IsLink (head_of image).order (head_of image).page_size image p
    → p ≤ (file_of image).last
    → page_at (file_of image) p ≡ Overflow (header_of (head_of image).order (bytes_of (head_of image).page_size image p))
    (data_at (head_of image).order (head_of image).page_size image p)
page_here image p long link low = grind (arith, page_is, last_page, overflow_page, page_length)

stands : (n : ℕ) (image : List ℕ) (p q : ℕ) → is_page_size (head_of image).page_size ≡ true → ComesAfter n (file_of image) p q
    → IsLeft (head_of image).order (head_of image).page_size image p → StandsFor (head_of image).order (head_of image).page_size image p q
stands zero image p q legal comes left = itself (head_of image).order (head_of image).page_size image p q (sym comes) left
stands (suc n) image p q legal comes left =
    let order : Order = (head_of image).order in
    let size : ℕ = (head_of image).page_size in
    let whole : IsWholeChain order size image p = left_whole order size image p left (λ none. omega (arith, none, comes.0.low)) in
    let here = page_here image p (omega (arith, (size_bounds size legal).0)) (whole_link order size image p whole) comes.0.high in
    let next : next_of (file_of image) p ≡ next_at order size image p = ap (λ page. (header_in page).next) here in
    let blank : data_at order size image p ≡ [] = sym (ap piece_in here) ∙ comes.0.none in
    let rest : StandsFor order size image (next_at order size image p) q =
    stands n image (next_at order size image p) q legal (subst (λ r. ComesAfter n (file_of image) r q) next comes.1) (after_left order size image p legal whole)
    in
    let are : pieces_from order size image p ≡ data_at order size image p ∷ pieces_from order size image (next_at order size image p) = pieces_from_cons order
    size image p legal whole in
    record {
      left = rest.left;
      same = rest.same ∙ sym (ap full_pieces are ∙ blank_first (data_at order size image p) (pieces_from order size image (next_at order size image p)) blank);
      few = omega (arith, rest.few, ap length are);
    }

-- what the handles of a linked image pass over
pub passed_on : (image : List ℕ) (blanks : Option (List ℕ)) → IsForest image → AreKnownPassed (file_of image) blanks
    → ArePassedIfAny (head_of image).order (head_of image).page_size image blanks
passed_on image None forest passed = tt
passed_on image (Some nexts) forest passed = grind (arith, stands, legal_size)

-- what is taken of the chains of a linked image
pub ruleset taken_chains = (legal_size, linked_whole, linked_pieces, count_is, passed_on, joined_full)
