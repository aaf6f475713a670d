-- A whole chain of the pages that a guess reads is one of the image.
use Rattle.std.proofs.Common.{◌≡◌, ℕ, zero, suc, ◌+◌, ◌-◌, ◌/◌, ◌<◌, ◌≤◌, Bool, true, false, cond, List, [], ◌∷◌, map, length, arith, refl, sym, ◌∙◌, ap, inl}
use Rattle.std.proofs.Common.{inr, eqb-true, ◌==◌, ◌&&◌, not, nat_lt, Option, Some, None, ltb-false}
use Rattle.std.proofs.lemmas.Bool.{and_parts}
use Rattle.bdb_law_sums.specs.of_format.declared.kinds.Order.{Order}
use Rattle.bdb_law_sums.specs.of_format.Terms.{File, Page, Zero, abstract_page, byte_at, chain_in, file_as, four_at, header_in, is_page_size, is_zero, next_of}
use Rattle.bdb_law_sums.specs.of_format.Terms.{page_as, page_at, page_code, page_type, piece_in, pieces_of, two_at}
use Rattle.bdb_law_sums.specs.of_format.declared.pages.PageType.{PageType}
use Rattle.bdb_law_sums.specs.of_format.declared.pages.PageType.TheVariants.{Overflow as OverflowPage}
use Rattle.bdb_law_sums.proofs.of_format.SizeLemmas.{size_bounds}
use Rattle.bdb_law_sums.proofs.of_format.TypeLemmas.{byte_as}
use Rattle.bdb_law_sums.specs.of_form.Formed.{HoldsData}
use Rattle.bdb_law_sums.proofs.of_form.FormedLemmas.{holds_data, tree_body}
use Rattle.bdb_law_sums.specs.of_overflow.Whole.{EndsIn, IsLink, IsWholeChain, bytes_of, next_at}
use Rattle.bdb_law_sums.proofs.of_overflow.WholeLemmas.{page_as_is, page_length}
use Rattle.bdb_survey.specs.Salvage.{follows, is_link, is_overflow, is_row, meta_code, salvaged_file, salvaged_page, unless_code}
use Rattle.bdb_survey.proofs.MetaLemmas.{both_none}
use Rattle.bdb_survey.proofs.StoredPageLemmas.{count_is, page_is, page_past}
use Rattle.bdb_law_sums.proofs.HashLemmas.{no_turn, turn_is}

-- An overflow page by its bytes.

overflow_type : (order : Order) (page : List ℕ) (t : PageType) → is_overflow (page_as order page t) ≡ true → t ≡ OverflowPage
overflow_type order page OverflowPage is = refl
overflow_type order page t is = absurd cc

-- a page of a chain has type 7, and its data lie on it
record IsChainPage (order : Order) (last : ℕ) (page : List ℕ) : Type 0 where
  kind : byte_at page 25 ≡ 7
  room : 26 + two_at order page 22 ≤ length page
  same : salvaged_page order last page ≡ abstract_page order page

by_zero : (order : Order) (page : List ℕ) → 26 ≤ length page → length page ≤ 32768 → page_code order (four_at order page 8) page ≡ None
    → (zeros : Bool) → is_zero page ≡ zeros → is_overflow (elim zeros [ true ↦ Zero | false ↦ page_as order page (page_type (byte_at page 25)) ]) ≡ true
    → HoldsData order page × (byte_at page 25 ≡ 7)
by_zero order page header size none true zeros is = absurd cc
by_zero order page header size none false zeros is =
    let type : page_type (byte_at page 25) ≡ OverflowPage = overflow_type order page (page_type (byte_at page 25)) is in
    (holds_data order page size header (tree_body order (four_at order page 8) page none zeros) type, byte_as (byte_at page 25) OverflowPage type)

by_code : (order : Order) (last : ℕ) (page : List ℕ) → 26 ≤ length page → length page ≤ 32768
    → (code meta : Option ℕ) → page_code order (four_at order page 8) page ≡ code → meta_code order last page (page_type (byte_at page 25)) ≡ meta
    → is_overflow (unless_code code (unless_code meta (abstract_page order page))) ≡ true
    → IsChainPage order last page
unfolding abstract_page salvaged_page
by_code order last page header size (Some code) meta some held is = absurd cc
by_code order last page header size None (Some code) none some is = absurd cc
by_code order last page header size None None none held is =
    let both : HoldsData order page × (byte_at page 25 ≡ 7) = by_zero order page header size none (is_zero page) refl is in
    record { kind = both.1; room = both.0.room; same = both_none order last page none held }

chain_page : (order : Order) (last : ℕ) (page : List ℕ) → 26 ≤ length page → length page ≤ 32768 → is_overflow (salvaged_page order last page) ≡ true
    → IsChainPage order last page
unfolding salvaged_page
chain_page order last page header size is =
    by_code order last page header size (page_code order (four_at order page 8) page) (meta_code order last page (page_type (byte_at page 25))) refl refl is

-- The same by its number.

-- a link of a chain is one of the image, and the same page of it
record IsSameLink (order : Order) (size : ℕ) (image : List ℕ) (p : ℕ) : Type 0 where
  link : IsLink order size image p
  same : page_at (salvaged_file order size image) p ≡ page_at (file_as order size image) p
  next_is : next_of (salvaged_file order size image) p ≡ next_at order size image p

there_of : (order : Order) (size : ℕ) (image : List ℕ) (p : ℕ) → is_overflow (page_at (salvaged_file order size image) p) ≡ true → p < length image / size
there_of order size image p is =
    elim (nat_lt p (length image / size)) as (λ b. nat_lt p (length image / size) ≡ b → p < length image / size) [
      | true ↦ λ lt. grind (arith, lt)
      | false ↦ λ ge. absurd (let no : true ≡ false = sym is ∙ ap is_overflow (page_past order size image p (ltb-false p (length image / size) ge)) in cc)
    ] refl

same_link : (order : Order) (size : ℕ) (image : List ℕ) (before p : ℕ) → is_page_size size ≡ true
    → is_link (salvaged_file order size image) is_overflow before p ≡ true → IsSameLink order size image p
same_link order size image before p legal is =
    let file : File = salvaged_file order size image in
    let some : (not (p == 0) && is_overflow (page_at file p)) ≡ true = (and_parts _ _ is).0 in
    let low : not (p == 0) ≡ true = (and_parts _ _ some).0 in
    let chain : is_overflow (page_at file p) ≡ true = (and_parts _ _ some).1 in
    let there : p < length image / size = there_of order size image p chain in
    let long : 512 ≤ size = (size_bounds size legal).0 in
    let short : size ≤ 32768 = (size_bounds size legal).1 in
    let page : List ℕ = bytes_of size image p in
    let all : length page ≡ size = page_length size image p (omega (arith, long)) there in
    let of_page : IsChainPage order (length image / size - 1) page = chain_page order (length image / size - 1) page (omega (arith, all, long))
    (omega (arith, all, short))
    (sym (ap is_overflow (page_is order size image p there)) ∙ chain) in
    let same : page_at file p ≡ page_at (file_as order size image) p = page_is order size image p there
    ∙ (of_page.same ∙ sym (page_as_is order size image p there)) in
    let link : IsLink order size image p = record { low = low_of p low; high = there; kind = of_page.kind; room = omega (arith, of_page.room, all) } in
    record {
      link = link;
      same = same;
      next_is = ap (λ page. (header_in page).next) same ∙ Rattle.bdb_law_sums.proofs.of_overflow.WholeLemmas.link_next order size image p
          (omega (arith, long)) link;
    }
  where
    low_of : (p : ℕ) → not (p == 0) ≡ true → 1 ≤ p
    low_of zero no' = absurd cc
    low_of (suc p) no' = omega arith

-- Turns.

first_link : (file : File) (test : Page → Bool) (before p : ℕ) (ps : List ℕ) → follows file test before (p ∷ ps) ≡ true → is_link file test before p ≡ true
first_link file test before p [] all = (and_parts _ _ all).0
first_link file test before p (q ∷ ps) all = (and_parts _ _ all).0

-- the rest of a row whose page isn't the last
after_link : (file : File) (test : Page → Bool) (before p : ℕ) (ps : List ℕ) → (next_of file p == 0) ≡ false → follows file test before (p ∷ ps) ≡ true
    → follows file test p ps ≡ true
after_link file test before p [] more all = absurd (let no : false ≡ true = sym more ∙ (and_parts _ _ all).1 in cc)
after_link file test before p (q ∷ ps) more all = (and_parts _ _ all).1

abbrev pub pieces_along : File → List ℕ → List (List ℕ)
pieces_along file ps = map (λ q. piece_in (page_at file q)) ps

-- in so many turns a row of overflow pages ends in the image, and has the image's pieces
record IsSameRow (turns : ℕ) (order : Order) (size : ℕ) (image : List ℕ) (p : ℕ) : Type 0 where
  ends : EndsIn turns order size image p
  pieces : pieces_along (file_as order size image) (chain_in turns (file_as order size image) p)
      ≡ pieces_along (salvaged_file order size image) (chain_in turns (salvaged_file order size image) p)

same_row : (turns : ℕ) (order : Order) (size : ℕ) (image : List ℕ) (before p : ℕ) → is_page_size size ≡ true
    → follows (salvaged_file order size image) is_overflow before (chain_in turns (salvaged_file order size image) p) ≡ true
    → IsSameRow turns order size image p
same_row zero order size image before p legal all =
    absurd (let none : false ≡ true = sym (ap (follows (salvaged_file order size image) is_overflow before) (no_turn (salvaged_file order size image) p))
    ∙ all in cc)
same_row (suc turns) order size image before p legal all =
    let file : File = salvaged_file order size image in
    let plain : File = file_as order size image in
    let rest : List ℕ = cond (next_of file p == 0) [] (chain_in turns file (next_of file p)) in
    let row : follows file is_overflow before (p ∷ rest) ≡ true = sym (ap (follows file is_overflow before) (turn_is turns file p)) ∙ all in
    let here : IsSameLink order size image p = same_link order size image before p legal (first_link file is_overflow before p rest row) in
    let next_same : next_of file p ≡ next_of plain p = ap (λ page. (header_in page).next) here.same in
    let piece_same : piece_in (page_at plain p) ≡ piece_in (page_at file p) = sym (ap piece_in here.same) in
    elim (next_of file p == 0) as (λ b. (next_of file p == 0) ≡ b → IsSameRow (suc turns) order size image p) [
      | true ↦ λ last. record {
        ends = (here.link, inl (sym here.next_is ∙ eqb-true (next_of file p) 0 last));
        pieces = one plain p (ap (λ n. n == 0) (sym next_same) ∙ last) ∙ (ap (λ x. x ∷ []) piece_same ∙ sym (one file p last));
      }
      | false ↦ λ more.
          let rows : follows file is_overflow p (chain_in turns file (next_of file p)) ≡ true =
          sym (ap (λ b. follows file is_overflow p (cond b [] (chain_in turns file (next_of file p)))) more) ∙ after_link file is_overflow before p rest more
          row in
          let below : IsSameRow turns order size image (next_of file p) = same_row turns order size image p (next_of file p) legal rows in
          record {
            ends = (here.link, inr (subst_ends turns order size image here.next_is below.ends));
            pieces = more_pieces plain p (ap (λ n. n == 0) (sym next_same) ∙ more)
                ∙ (ap (λ x. x ∷ pieces_along plain (chain_in turns plain (next_of plain p))) piece_same
                ∙ (ap (λ n. piece_in (page_at file p) ∷ pieces_along plain (chain_in turns plain n)) (sym next_same)
                ∙ (ap (λ xs. piece_in (page_at file p) ∷ xs) below.pieces ∙ sym (more_pieces file p more))));
          }
    ] refl
  where
    one : (file : File) (p : ℕ) → (next_of file p == 0) ≡ true → pieces_along file (chain_in (suc turns) file p) ≡ piece_in (page_at file p) ∷ []
    one file p last = ap (pieces_along file) (turn_is turns file p ∙ ap (λ b. p ∷ cond b [] (chain_in turns file (next_of file p))) last)

    more_pieces : (file : File) (p : ℕ) → (next_of file p == 0) ≡ false → pieces_along file (chain_in (suc turns) file p) ≡ piece_in (page_at file p)
        ∷ pieces_along file (chain_in turns file (next_of file p))
    more_pieces file p more = ap (pieces_along file) (turn_is turns file p ∙ ap (λ b. p ∷ cond b [] (chain_in turns file (next_of file p))) more)

    subst_ends : (turns : ℕ) (order : Order) (size : ℕ) (image : List ℕ) {n m : ℕ} → n ≡ m → EndsIn turns order size image n → EndsIn turns order size image m
    subst_ends turns order size image same ends = Rattle.std.proofs.Common.subst (EndsIn turns order size image) same ends

all_same : (order : Order) (size : ℕ) (image : List ℕ) (head : ℕ) → is_page_size size ≡ true → is_row (salvaged_file order size image) is_overflow head ≡ true
    → IsSameRow (length image / size) order size image head
all_same order size image head legal whole =
    same_row (length image / size) order size image 0 head legal
    (ap (λ turns. follows (salvaged_file order size image) is_overflow 0 (chain_in turns (salvaged_file order size image) head))
    (sym (count_is order size image)) ∙ whole)

pub whole_chain : (order : Order) (size : ℕ) (image : List ℕ) (head : ℕ) → is_page_size size ≡ true → is_row (salvaged_file order size image) is_overflow head
    ≡ true → IsWholeChain order size image head
whole_chain order size image head legal whole = record { ends = (all_same order size image head legal whole).ends }

pub same_pieces : (order : Order) (size : ℕ) (image : List ℕ) (head : ℕ) → is_page_size size ≡ true → is_row (salvaged_file order size image) is_overflow head
    ≡ true
    → pieces_of (file_as order size image) head ≡ pieces_of (salvaged_file order size image) head
unfolding pieces_of salvaged_file file_as
same_pieces order size image head legal whole = (all_same order size image head legal whole).pieces
