-- A walk along a row: what is left is whole where the page is a link and what comes after it is whole.
use Rattle.std.proofs.Common.{◌≡◌, ℕ, zero, suc, ◌+◌, ◌-◌, ◌*◌, ◌<◌, ◌≤◌, Bool, true, false, cond, List, [], ◌∷◌, map, length, arith, refl, sym, ◌∙◌, ap}
use Rattle.std.proofs.Common.{length-append, ◌==◌, ◌&&◌, not, Option, Some, None}
use Rattle.std.proofs.lemmas.Bool.{eq-eqb, ne_eqb}
use Rattle.bdb_law_sums.specs.of_format.Terms.{File, Page, chain_in, joined, next_of, page_at, piece_in, pieces_of}
use Rattle.bdb_survey.specs.declared.links.Extent.{Extent}
use Rattle.bdb_survey.specs.declared.links.Link.{Link}
use Rattle.bdb_survey.specs.Links.{link_in, link_of, rest_extent, extent_of}
use Rattle.bdb_survey.specs.Salvage.{follows, is_link}
use Rattle.bdb_law_sums.proofs.HashLemmas.{no_turn, turn_is}

-- the length of the data of some pages
abbrev pub size_of : File → List ℕ → ℕ
size_of file ps = length (joined (map (λ q. piece_in (page_at file q)) ps))

-- how much some pages have, with the bytes and the pages before
abbrev pub with_pages : File → ℕ → ℕ → List ℕ → Extent
with_pages file sofar n ps = record { length = sofar + size_of file ps; pages = n + length ps }

abbrev extent_by : ℕ → ℕ → Extent
extent_by length pages = record { length = length; pages = pages }

same_extent : (a b m n : ℕ) → a ≡ b → m ≡ n → extent_by a m ≡ extent_by b n
same_extent a b m n first second = ap (λ k. extent_by k m) first ∙ ap (extent_by b) second

pub whole_is_rest : (file : File) (test : Page → Bool) (head : ℕ) → extent_of file test head ≡ rest_extent file test file.count 0 head 0 0
unfolding extent_of pieces_of
whole_is_rest file test head =
    let ps : List ℕ = chain_in file.count file head in
    let same : extent_by (size_of file ps) (length ps) ≡ with_pages file 0 0 ps = same_extent (size_of file ps) (0 + size_of file ps) (length ps)
    (0 + length ps) (omega arith) (omega arith) in
    ap (λ (e : Extent). cond (follows file test 0 ps) (Some e) None) same

-- a page by its number is a link where it's one
abbrev pub link_given : File → ℕ → Bool → Option Link
link_given file p is = cond is (Some (record { length = length (piece_in (page_at file p)); next = next_of file p })) None

link_is : (file : File) (test : Page → Bool) (before p : ℕ) → link_in file test before p ≡ link_given file p (is_link file test before p)
link_is file test before p =
    elim (p == 0) as (λ b. cond b None (link_of test before (page_at file p))
    ≡ link_given file p (not b && test (page_at file p) && (Rattle.bdb_law_sums.specs.of_format.File.header_in (page_at file p)).previous == before)) [
      | true ↦ refl
      | false ↦ refl
    ]

-- where the page is no link, nothing is whole
no_follows : (file : File) (test : Page → Bool) (before p : ℕ) (ps : List ℕ) → is_link file test before p ≡ false → follows file test before (p ∷ ps) ≡ false
no_follows file test before p [] no' = ap (λ b. b && (next_of file p == 0)) no'
no_follows file test before p (q ∷ ps) no' = ap (λ b. b && follows file test p (q ∷ ps)) no'

link_cases : (file : File) (p : ℕ) (b : Bool) → link_given file p b ≡ None → b ≡ false
link_cases file p true none = absurd cc
link_cases file p false none = refl

not_link : (file : File) (test : Page → Bool) (before p : ℕ) → link_in file test before p ≡ None → is_link file test before p ≡ false
not_link file test before p none = link_cases file p (is_link file test before p) (sym (link_is file test before p) ∙ none)

abbrev pub rest_of : File → (Page → Bool) → ℕ → ℕ → ℕ → List ℕ → Option Extent
rest_of file test before sofar n ps = cond (follows file test before ps) (Some (with_pages file sofar n ps)) None

pub rest_none : (file : File) (test : Page → Bool) (turns before p sofar n : ℕ) → link_in file test before p ≡ None
    → rest_extent file test turns before p sofar n ≡ None
rest_none file test zero before p sofar n none = ap (rest_of file test before sofar n) (no_turn file p)
rest_none file test (suc t) before p sofar n none =
    let rest : List ℕ = cond (next_of file p == 0) [] (chain_in t file (next_of file p)) in
    ap (rest_of file test before sofar n) (turn_is t file p)
    ∙ ap (λ b. cond b (Some (with_pages file sofar n (p ∷ rest))) None) (no_follows file test before p rest (not_link file test before p none))

-- what a link says
record IsLinked (file : File) (test : Page → Bool) (before p : ℕ) (link : Link) : Type 0 where
  is : is_link file test before p ≡ true
  length_is : link.length ≡ length (piece_in (page_at file p))
  next_is : link.next ≡ next_of file p

linked : (file : File) (test : Page → Bool) (before p : ℕ) (link : Link) → link_in file test before p ≡ Some link → IsLinked file test before p link
linked file test before p link some = of (is_link file test before p) refl
  where
    of : (b : Bool) → is_link file test before p ≡ b → IsLinked file test before p link
    of false no' = absurd (let none : None ≡ Some link = sym (link_is file test before p ∙ ap (link_given file p) no') ∙ some in cc)
    of true is =
        let same : Some (record { length = length (piece_in (page_at file p)); next = next_of file p })
        ≡ Some link = sym (link_is file test before p ∙ ap (link_given file p) is) ∙ some in
        let inner : record { length = length (piece_in (page_at file p)); next = next_of file p } ≡ link = cc in
        record { is = is; length_is = sym (ap (λ (l : Link). l.length) inner); next_is = sym (ap (λ (l : Link). l.next) inner) }

follows_last : (file : File) (test : Page → Bool) (before p : ℕ) → is_link file test before p ≡ true → (next_of file p == 0) ≡ true
    → follows file test before (p ∷ []) ≡ true
follows_last file test before p is last = ap (λ b. b && (next_of file p == 0)) is ∙ last

follows_more : (file : File) (test : Page → Bool) (before p : ℕ) (ps : List ℕ) → is_link file test before p ≡ true → (next_of file p == 0) ≡ false
    → follows file test before (p ∷ ps) ≡ follows file test p ps
follows_more file test before p [] is more = ap (λ b. b && (next_of file p == 0)) is ∙ more
follows_more file test before p (q ∷ qs) is more = ap (λ b. b && follows file test p (q ∷ qs)) is

size_more : (file : File) (p : ℕ) (ps : List ℕ) → size_of file (p ∷ ps) ≡ length (piece_in (page_at file p)) + size_of file ps
size_more file p ps = length-append (piece_in (page_at file p)) (joined (map (λ q. piece_in (page_at file q)) ps))

-- the last page
pub rest_last : (file : File) (test : Page → Bool) (t before p sofar n : ℕ) (link : Link) → link_in file test before p ≡ Some link → link.next ≡ 0
    → rest_extent file test (suc t) before p sofar n ≡ Some (record { length = sofar + link.length; pages = n + 1 })
rest_last file test t before p sofar n link some last =
    let is : IsLinked file test before p link = linked file test before p link some in
    let zero' : (next_of file p == 0) ≡ true = eq-eqb (next_of file p) 0 (sym is.next_is ∙ last) in
    let row : chain_in (suc t) file p ≡ p ∷ [] = turn_is t file p ∙ ap (λ b. p ∷ cond b [] (chain_in t file (next_of file p))) zero' in
    let size : sofar + size_of file (p ∷ []) ≡ sofar + link.length = omega (arith, size_more file p [], is.length_is) in
    let pages : n + length (p ∷ []) ≡ n + 1 = omega arith in
    ap (rest_of file test before sofar n) row
    ∙ (ap (λ b. cond b (Some (with_pages file sofar n (p ∷ []))) None) (follows_last file test before p is.is zero')
    ∙ ap (λ (e : Extent). Some e) (same_extent _ _ _ _ size pages))

-- a page, and what comes after it
pub rest_more : (file : File) (test : Page → Bool) (t before p sofar n : ℕ) (link : Link) → link_in file test before p ≡ Some link → (link.next ≡ 0 → ⊥)
    → rest_extent file test (suc t) before p sofar n ≡ rest_extent file test t p link.next (sofar + link.length) (n + 1)
rest_more file test t before p sofar n link some more =
    let is : IsLinked file test before p link = linked file test before p link some in
    let other : (next_of file p == 0) ≡ false = ne_eqb (next_of file p) 0 (λ e. more (is.next_is ∙ e)) in
    let rest : List ℕ = chain_in t file (next_of file p) in
    let row : chain_in (suc t) file p ≡ p ∷ rest = turn_is t file p ∙ ap (λ b. p ∷ cond b [] (chain_in t file (next_of file p))) other in
    let size : sofar + size_of file (p ∷ rest) ≡ sofar + link.length + size_of file rest = omega (arith, size_more file p rest, is.length_is) in
    let pages : n + length (p ∷ rest) ≡ n + 1 + length rest = omega arith in
    ap (rest_of file test before sofar n) row
    ∙ (ap (λ b. cond b (Some (with_pages file sofar n (p ∷ rest))) None) (follows_more file test before p rest is.is other)
    ∙ (ap (λ (e : Extent). cond (follows file test p rest) (Some e) None) (same_extent _ _ _ _ size pages)
    ∙ ap (λ q. rest_of file test p (sofar + link.length) (n + 1) (chain_in t file q)) (sym is.next_is)))

-- no turn is left
pub rest_zero : (file : File) (test : Page → Bool) (before p sofar n : ℕ) → rest_extent file test 0 before p sofar n ≡ None
rest_zero file test before p sofar n = ap (rest_of file test before sofar n) (no_turn file p)

-- The loop.

pub record IsAt (file : File) (test : Page → Bool) (head i before page sofar steps start : ℕ) : Type 0 where
  pub same : extent_of file test head ≡ rest_extent file test (file.count - i) before page sofar i
  pub short : sofar ≤ i * 65536
  pub one_a_turn : steps ≡ start + i

pub at_first : (file : File) (test : Page → Bool) (head steps : ℕ) → IsAt file test head 0 0 head 0 steps steps
at_first file test head steps =
    let all : file.count ≡ file.count - 0 = omega arith in
    record { same = whole_is_rest file test head ∙ ap (λ t. rest_extent file test t 0 head 0 0) all; short = omega arith; one_a_turn = omega arith }

turn_left : (file : File) (i : ℕ) → i < file.count → file.count - i ≡ suc (file.count - (i + 1))
turn_left file i below = omega arith

pub at_none : (file : File) (test : Page → Bool) (head i before page sofar steps start : ℕ) → IsAt file test head i before page sofar steps start
    → link_in file test before page ≡ None → extent_of file test head ≡ None
at_none file test head i before page sofar steps start at none = at.same ∙ rest_none file test (file.count - i) before page sofar i none

pub at_last : (file : File) (test : Page → Bool) (head i before page sofar steps start : ℕ) (link : Link) → IsAt file test head i before page sofar steps start
    → i < file.count → link_in file test before page ≡ Some link → link.next ≡ 0
    → extent_of file test head ≡ Some (record { length = sofar + link.length; pages = i + 1 })
at_last file test head i before page sofar steps start link at below some last =
    at.same ∙ (ap (λ t. rest_extent file test t before page sofar i) (turn_left file i below) ∙ rest_last file test (file.count - (i + 1)) before page sofar i
    link some last)

pub at_next : (file : File) (test : Page → Bool) (head i before page sofar steps start : ℕ) (link : Link) → IsAt file test head i before page sofar steps start
    → i < file.count → link_in file test before page ≡ Some link → (link.next ≡ 0 → ⊥)
    → link.length < 65536 → IsAt file test head (i + 1) page link.next (sofar + link.length) (steps + 1) start
at_next file test head i before page sofar steps start link at below some more few =
    record {
      same = at.same ∙ (ap (λ t. rest_extent file test t before page sofar i) (turn_left file i below) ∙ rest_more file test (file.count - (i + 1)) before page
          sofar i link some more);
      short = omega (arith, at.short);
      one_a_turn = omega (arith, at.one_a_turn);
    }

pub at_end : (file : File) (test : Page → Bool) (head i before page sofar steps start : ℕ) → IsAt file test head i before page sofar steps start
    → file.count ≤ i → extent_of file test head ≡ None
at_end file test head i before page sofar steps start at past =
    let none : file.count - i ≡ 0 = omega arith in
    at.same ∙ (ap (λ t. rest_extent file test t before page sofar i) none ∙ rest_zero file test before page sofar i)

-- where a row ends
pub ruleset row_ends = (at_first, at_none, at_last, at_next, at_end)
