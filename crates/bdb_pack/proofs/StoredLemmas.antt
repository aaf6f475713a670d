-- The pages of a stored value, read back, are a chain of it.
use Rattle.std.proofs.Common.{◌≡◌, ℕ, suc, ◌+◌, ◌-◌, ◌^◌, ◌<◌, ◌≤◌, true, false, cond, List, [], ◌∷◌, ◌++◌, length, take, drop, get_or, arith, refl, sym, ◌∙◌}
use Rattle.std.proofs.Common.{inl, inr, subst, ap, length-append, length-drop, nat_lt}
use Rattle.bdb_pack.proofs.Common.{lt-ltb, append-nil, get_or-append-add, get_or-map, length-take-le, take-append-drop, Order, File, NoType, Overflow, Page, abstract_page, is_page_size, joined}
use Rattle.bdb_pack.proofs.Common.{page_at, IsLink, IsRun, IsSamePage, chain_header, bytes_of, file_so_far, AreFull, StoredValuesStand, AreChainPages, chain_page, piece_length, piece_next}
use Rattle.bdb_law_grove.proofs.ChainLemmas.{chains_stand, is_between}
use Rattle.bdb_pack.proofs.PieceLemmas.{chain_pages_are_formed}

-- A page of a chain.

chain_page_is : (order : Order) (size number previous : ℕ) (rest : List ℕ) → is_page_size size ≡ true → number + 1 < 2 ^ 32 → previous < 2 ^ 32
    → let piece : List ℕ = take (piece_length size rest) rest in
    abstract_page order (chain_page order size number previous rest)
    ≡ Overflow (chain_header number previous (piece_next size number rest) (length piece) 1) piece
chain_page_is order size number previous rest legal low before = grind (arith, length-take-le, chain_pages_are_formed)

-- The pages, in a later file.

-- pages of a list stand in a file from a number on
abbrev StandAt : File → Order → ℕ → List (List ℕ) → Type 0
StandAt g order number [] = Unit {0}
StandAt g order number (page ∷ pages) = IsSamePage (abstract_page order page) (page_at g number) × StandAt g order (number + 1) pages

record Run (g : File) (size previous number : ℕ) (rest : List ℕ) (pages : List (List ℕ)) : Type 0 where
  pieces : List (List ℕ)
  count : length pieces ≡ length pages
  joined_is : joined pieces ≡ rest
  full : AreFull (size - 26) pieces
  run : IsRun g previous number pieces

-- the last page has all that is left, and no next
last_all : (size number : ℕ) (rest : List ℕ) → drop (piece_length size rest) rest ≡ []
    → (piece_next size number rest ≡ 0) × (take (piece_length size rest) rest ≡ rest)
last_all size number rest none =
    let n : ℕ = piece_length size rest in
    let long : length rest - n ≡ 0 = sym (length-drop n rest) ∙ ap length none in (
      ap (λ b. cond b (number + 1) 0) (above n (length rest) (omega (arith, long))),
      sym (append-nil (take n rest))
          ∙ (ap (λ xs. take n rest ++ xs) (sym none) ∙ take-append-drop n rest),
    )
  where
    above : (more target : ℕ) → target ≤ more → nat_lt more target ≡ false
    above more target low = grind arith

-- another page has a next
more_next : (size number : ℕ) (rest : List ℕ) → 0 < length (drop (piece_length size rest) rest) → piece_next size number rest ≡ number + 1
more_next size number rest some =
    ap (λ b. cond b (number + 1) 0) (lt-ltb (piece_length size rest) (length rest) (omega (arith, some, length-drop (piece_length size rest) rest)))

-- a page of a chain is one, whatever more it counts
link_of : (g : File) (previous number next : ℕ) (piece : List ℕ) (old : Page) → old ≡ Overflow (chain_header number previous next (length piece) 1) piece
    → IsSamePage old (page_at g number) → IsLink g previous number next piece
link_of g previous number next piece old is (inl same) = (1, omega arith, same ∙ is)
link_of g previous number next piece old is (inr more) = grind arith

run_of : (g : File) (order : Order) (size number previous : ℕ) (rest : List ℕ) (pages : List (List ℕ)) → is_page_size size ≡ true → 0 < length rest
    → number + length pages < 2 ^ 32 → previous < 2 ^ 32
    → AreChainPages order size number previous rest pages → StandAt g order number pages → Run g size previous number rest pages
run_of g order size number previous rest [] legal some few before chain stand = absurd (omega (arith, some, ap length chain))
run_of g order size number previous rest (page ∷ []) legal some few before chain stand =
    let n : ℕ = piece_length size rest in
    let last = last_all size number rest chain.2 in
    record {
      pieces = take n rest ∷ [];
      count = refl;
      joined_is = append-nil (take n rest) ∙ last.1;
      full = (omega (arith, ap length last.1, some), omega (arith, length-take-le n rest (omega arith)));
      run =
          link_of g previous number 0 (take n rest) (abstract_page order page)
          (ap (abstract_page order) chain.1 ∙ (chain_page_is order size number previous rest legal (omega arith) before
          ∙ ap (λ x. Overflow (chain_header number previous x (length (take n rest)) 1) (take n rest)) last.0))
          stand.0;
    }
run_of g order size number previous rest (page ∷ other ∷ pages) legal some few before chain stand =
    let n : ℕ = piece_length size rest in
    let after = run_of g order size (number + 1) number (drop n rest) (other ∷ pages) legal chain.2.0 (omega arith) (omega arith) chain.2 stand.1 in
    let this : IsLink g previous number (number + 1) (take n rest) =
    link_of g previous number (number + 1) (take n rest) (abstract_page order page)
    (ap (abstract_page order) chain.1 ∙ (chain_page_is order size number previous rest legal (omega arith) before
    ∙ ap (λ x. Overflow (chain_header number previous x (length (take n rest)) 1) (take n rest)) (more_next size number rest chain.2.0)))
    stand.0 in
    record {
      pieces = take n rest ∷ after.pieces;
      count = ap suc after.count;
      joined_is = ap (λ xs. take n rest ++ xs) after.joined_is ∙ take-append-drop n rest;
      full = fuller after.pieces after.count
          (omega (arith, length-take-le n rest (omega arith), chain.2.0, length-drop n rest)) after.full;
      run = longer after.pieces after.count this after.run;
    }
  where
    fuller : (pieces : List (List ℕ)) → length pieces ≡ suc (length pages) → length (take (piece_length size rest) rest) ≡ size - 26
        → AreFull (size - 26) pieces → AreFull (size - 26) (take (piece_length size rest) rest ∷ pieces)
    fuller [] long whole full = absurd full
    fuller (piece ∷ pieces) long whole full = (whole, full)

    longer : (pieces : List (List ℕ)) → length pieces ≡ suc (length pages) → IsLink g previous number (number + 1) (take (piece_length size rest) rest)
        → IsRun g number (number + 1) pieces → IsRun g previous number (take (piece_length size rest) rest ∷ pieces)
    longer [] long this run = absurd run
    longer (piece ∷ pieces) long this run = (this, run)

stand_at : (g : File) (order : Order) (number : ℕ) (pages : List (List ℕ))
    → ((k : ℕ) → k < length pages → IsSamePage (abstract_page order (get_or pages k [])) (page_at g (number + k))) → StandAt g order number pages
stand_at g order number [] stand = tt
stand_at g order number (page ∷ pages) stand = (
  let e : number + 0 ≡ number = omega arith in subst (λ (x : ℕ). IsSamePage (abstract_page order page) (page_at g x)) e (stand 0 (omega arith)),
  stand_at g order (number + 1) pages (λ k low. let e : number + suc k ≡ number + 1 + k = omega arith in
      subst (λ (x : ℕ). IsSamePage (abstract_page order (get_or pages k [])) (page_at g x)) e (stand (suc k) (omega arith))),
)

pub stored_values_stand : StoredValuesStand
stored_values_stand old new value head g has legal some above few counted later =
    let first : ℕ = length old.pages in
    let total : length new.pages ≡ first + length has.added = ap length has.pages ∙ length-append old.pages has.added in
    let stand : StandAt g old.order head has.added =
    stand_at g old.order head has.added (λ k low.
    let p : ℕ = head + k in
    let under : p < length new.pages = omega (arith, has.first, total) in
    let is : page_at (file_so_far new) p ≡ abstract_page new.order (bytes_of new p) = get_or-map (abstract_page new.order) new.pages p [] NoType under in
    let bytes : bytes_of new p ≡ get_or has.added k [] =
    ap (λ ps. get_or ps p []) has.pages
    ∙ (ap (λ q. get_or (old.pages ++ has.added) q []) (let e : p ≡ first + k = omega (arith, has.first) in e) ∙ get_or-append-add old.pages has.added k []) in
    subst (λ page. IsSamePage page (page_at g p)) (is ∙ (ap (λ o. abstract_page o (bytes_of new p)) has.order ∙ ap (abstract_page old.order) bytes))
    (later.same p (is_between first (length new.pages) p (omega (arith, has.first)) under))) in
    let run = run_of g old.order old.size head 0 value has.added legal some (omega (arith, few, total, has.first)) (omega arith) has.chain stand in
    record {
      pieces = run.pieces;
      full = run.full;
      run = run.run;
      count = omega (arith, run.count, total, has.first);
      joined_is = run.joined_is;
      chain = chains_stand g 0 head run.pieces counted (omega (arith, has.first)) (omega (arith, run.count, total, has.first, later.grows)) run.run;
    }
