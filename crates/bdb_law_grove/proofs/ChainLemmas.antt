-- The pages of a chain are a grove that is entered by its first page, and hold the value.
use Rattle.std.proofs.Common.{◌≡◌, ℕ, zero, suc, ◌+◌, ◌<◌, ◌≤◌, Bool, true, false, cond, List, [], ◌∷◌, map, length, None, arith, refl, sym, ◌∙◌, ap, subst}
use Rattle.std.proofs.Common.{◌==◌, ◌||◌, ◌&&◌, nat_le, nat_lt, Contains}
use Rattle.std.proofs.Math.Path.{fun_ext}
use Rattle.std.proofs.lemmas.Bool.{cases_Bool, cases_eq, and_parts, eqb-true, eq-eqb, ne_eqb, leb-true, ltb-true, le-leb, lt-ltb, or_left, or_right, or_cases}
use Rattle.bdb_format.specs.declared.references.Reference.{Reference}
use Rattle.bdb_format.specs.declared.references.Sort.TheVariants.{OverflowNext}
use Rattle.bdb_format.specs.declared.pages.Header.{Header}
use Rattle.bdb_format.specs.declared.metadata.FileKind.TheVariants.{Queue as QueueFile}
use Rattle.bdb_format.specs.Terms.{File, Overflow, Page, chain_in, fit_code, page_at, piece_in, pieces_of, refs, unless_zero, value_of}
use Rattle.bdb_law_grove.specs.Part.{IsGrove, between}
use Rattle.bdb_law_grove.specs.Growing.{ChainsStand, IsCounted, IsLink, IsRun, chain_header}
use Rattle.bdb_law_grove.proofs.SeveralLemmas.{page_over_one}
use Rattle.bdb_format.proofs.ListLemmas.{only_member}
use Rattle.bdb_law_grove.proofs.BesideLemmas.{page_alone}
use Rattle.bdb_law_grove.proofs.GroveLemmas.{fits_asked, reference_of, refs_of}

-- References of a page of a chain.

abbrev to_next : ℕ → Reference
to_next next = record { place = 0; sort = OverflowNext; target = next }

some_next : (next : ℕ) → 1 ≤ next → unless_zero OverflowNext next ≡ (OverflowNext, next) ∷ []
some_next next above = ap (λ b. cond b [] ((OverflowNext, next) ∷ [])) (ne_eqb next 0 (λ e. omega arith))

refs_last : (g : File) (p previous count : ℕ) (piece : List ℕ) → (g.kind ≡ QueueFile → ⊥)
    → page_at g p ≡ Overflow (chain_header p previous 0 (length piece) count) piece → refs g p ≡ []
refs_last g p previous count piece forest is = refs_of g p (Overflow (chain_header p previous 0 (length piece) count) piece) forest is

refs_next : (g : File) (p previous next count : ℕ) (piece : List ℕ) → (g.kind ≡ QueueFile → ⊥) → 1 ≤ next
    → page_at g p ≡ Overflow (chain_header p previous next (length piece) count) piece → refs g p ≡ to_next next ∷ []
refs_next g p previous next count piece forest above is = grind (arith, refs_of, reference_of, some_next)

-- the reference to the next page of a chain fits
fits_next : (g : File) (p next : ℕ) (page : Page) (header : Header) (piece : List ℕ) → 1 ≤ next → next ≤ g.last → page_at g next ≡ Overflow header piece
    → header.previous ≡ p → fit_code g p (to_next next) ≡ None
unfolding fit_code
fits_next g p next page header piece low high is back = grind (arith, fits_asked, eq-eqb)

-- Sets of pages.

pub same_test : (a b : Bool) → (a ≡ true → b ≡ true) → (b ≡ true → a ≡ true) → a ≡ b
same_test true b to from = sym (to refl)
same_test false true to from = from refl
same_test false false to from = refl

pub between_is : (from to q : ℕ) → between from to q ≡ true → (from ≤ q) × (q < to)
between_is from to q is = let parts = and_parts (nat_le from q) (nat_lt q to) is in (leb-true from q parts.0, ltb-true q to parts.1)

pub is_between : (from to q : ℕ) → from ≤ q → q < to → between from to q ≡ true
is_between from to q low high = ap (λ b. b && nat_lt q to) (le-leb from q low) ∙ lt-ltb q to high

between_one : (p q : ℕ) → (q == p) ≡ between p (p + 1) q
between_one p q = grind (arith, same_test, eqb-true, is_between, between_is, eq-eqb)

between_more : (p n q : ℕ) → between p (p + suc n) q ≡ (between (p + 1) (p + 1 + n) q || (q == p))
between_more p n q = grind (arith, same_test, between_is, cases_eq, or_right, eq-eqb, or_left, is_between, or_cases, eqb-true)

between_out : (p n : ℕ) → between (p + 1) (p + 1 + n) p ≡ false
between_out p n = grind (arith, cases_Bool, between_is)

-- The grove.

first_is : (g : File) (previous p : ℕ) (piece : List ℕ) (pieces : List (List ℕ)) → IsRun g previous p (piece ∷ pieces)
    → (next : ℕ) × IsLink g previous p next piece
first_is g previous p piece [] run = (0, run)
first_is g previous p piece (other ∷ pieces) run = (p + 1, run.0)

chain_grove : (g : File) (previous p : ℕ) (pieces : List (List ℕ)) → IsCounted g → 1 ≤ p → p + length pieces ≤ g.last + 1 → IsRun g previous p pieces
    → IsGrove g (between p (p + length pieces)) (p ∷ [])
chain_grove g previous p [] counted low high run = absurd run
chain_grove g previous p (piece ∷ []) counted low high run = grind (arith, fun_ext, between_one, page_alone, refs_last)
chain_grove g previous p (piece ∷ next ∷ pieces) counted low high run =
    let one : refs g p ≡ to_next (p + 1) ∷ [] = refs_next g p previous (p + 1) run.0.0 piece counted.no_queue (omega arith) run.0.2 in
    let second = first_is g p (p + 1) next pieces run.1 in
    let header : Header = chain_header (p + 1) p second.0 (length next) second.1.0 in
    subst (λ (pages : ℕ → Bool). IsGrove g pages (p ∷ [])) (fun_ext (λ q. sym (between_more p (length (next ∷ pieces)) q)))
    (page_over_one g (between (p + 1) (p + 1 + length (next ∷ pieces))) p (to_next (p + 1))
    (record {
      low = low;
      high = omega arith;
      new = between_out p (length (next ∷ pieces));
      fits = λ r at. subst (λ (s : Reference). fit_code g p s ≡ None) (only_member (to_next (p + 1)) r (subst (λ rs. Contains rs r) one at))
          (fits_next g p (p + 1) (Overflow header next) header next (omega arith) (omega arith) second.1.2 refl);
    })
    one (λ head. absurd cc) (chain_grove g p (p + 1) (next ∷ pieces) counted (omega arith) (omega arith) run.1))

-- The value.

chain_pages : (turns : ℕ) (g : File) (previous p : ℕ) (pieces : List (List ℕ)) → 1 ≤ p → length pieces ≤ turns → IsRun g previous p pieces
    → map (λ q. piece_in (page_at g q)) (chain_in turns g p) ≡ pieces
unfolding chain_in
chain_pages turns g previous p [] low few run = absurd run
chain_pages zero g previous p (piece ∷ pieces) low few run = absurd (omega arith)
chain_pages (suc turns) g previous p (piece ∷ []) low few run = grind (arith, eq-eqb)
chain_pages (suc turns) g previous p (piece ∷ other ∷ pieces) low few run =
    grind (arith, ne_eqb, chain_pages turns g p (p + 1) (other ∷ pieces) (omega arith) (omega arith) run.1)

pub chains_stand : ChainsStand
unfolding value_of pieces_of
chains_stand g previous p pieces counted low high run = grind (arith, chain_grove, chain_pages)
