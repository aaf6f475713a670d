-- A run goes on after its first block, in any number of turns that is enough; its blocks, spelled, are its bytes.
use Rattle.std.proofs.Common.{◌≡◌, ℕ, ◌+◌, ◌<◌, ◌≤◌, zero, suc, List, [], ◌∷◌, ◌++◌, length, take, drop, get_or, refl, ap, inl, inr, arith, ◌∙◌, length-drop}
use Rattle.std.proofs.Common.{length-take, drop-cons, append_assoc, Bool, true, false, not, ◌||◌, nat_lt, ◌==◌, if◌then◌else◌, Option, Some, None, IsSome}
use Rattle.std.proofs.Common.{is_some, flat_map, option_map, unwrap_or}
use Rattle.std.proofs.Math.Dec.{eqb-suc-zero}
use Rattle.std.proofs.lemmas.Bool.Decides.{nat_tests}
use Rattle.std.proofs.lemmas.List.{drop-drop, get_or-drop, take-append-drop}
use Rattle.bdb_format.specs.declared.kinds.Order.{Order}
use Rattle.bdb_format.specs.declared.kinds.Order.TheVariants.{Big, Little}
use Rattle.bdb_format.specs.Terms.{block_bytes, blocks_in, blocks_of, number, number_at, spelled, two_at}
use Rattle.bdb_layout.specs.Blocks.{BeginsNoBlock, GoesOn}

-- no block stands at the front
abbrev pub lacks_block : Order → List ℕ → Bool
lacks_block order bytes =
    nat_lt (length bytes) (two_at order bytes 0 + 4) || not (two_at order bytes (two_at order bytes 0 + 2) == two_at order bytes 0)

-- what one turn makes of the blocks after the first
abbrev pub with_first : Order → List ℕ → Option (List (List ℕ)) → Option (List (List ℕ))
with_first order bytes rest =
    if lacks_block order bytes then None
    else option_map (λ blocks. take (two_at order bytes 0) (drop 2 bytes) ∷ blocks) rest

abbrev pub after_first : Order → List ℕ → List ℕ
after_first order bytes = drop (two_at order bytes 0 + 4) bytes

more_turns : (t u : ℕ) (order : Order) (bytes : List ℕ) → length bytes ≤ t → length bytes ≤ u → blocks_in t order bytes ≡ blocks_in u order bytes
more_turns t u order [] p q = refl
more_turns zero u order (b ∷ bytes) p q = absurd (omega arith)
more_turns (suc t) zero order (b ∷ bytes) p q = absurd (omega arith)
more_turns (suc t) (suc u) order (b ∷ bytes) p q =
    let shorter : length (after_first order (b ∷ bytes)) ≤ length bytes = omega (arith, length-drop (two_at order (b ∷ bytes) 0 + 4) (b ∷ bytes)) in
    ap (with_first order (b ∷ bytes)) (more_turns t u order (after_first order (b ∷ bytes)) (omega arith) (omega arith))

-- one turn
pub blocks_of-cons : (order : Order) (b : ℕ) (bytes : List ℕ) → blocks_of order (b ∷ bytes)
    ≡ with_first order (b ∷ bytes) (blocks_of order (after_first order (b ∷ bytes)))
unfolding blocks_of
blocks_of-cons order b bytes = grind (arith, length-drop, more_turns)

no_block : (order : Order) (bytes : List ℕ) → lacks_block order bytes ≡ true → BeginsNoBlock order bytes
no_block order [] lacks = inl refl
no_block order (b ∷ bytes) lacks = inr (blocks_of-cons order b bytes ∙ rw lacks)

pub too_short : (order : Order) (bytes : List ℕ) → length bytes < 4 → BeginsNoBlock order bytes
too_short order bytes short = no_block order bytes (grind (arith, nat_tests))

pub no_room : (order : Order) (bytes : List ℕ) (n : ℕ) → n ≡ two_at order bytes 0 → length bytes < n + 4 → BeginsNoBlock order bytes
no_room order bytes n is short = no_block order bytes (grind (arith, nat_tests))

pub no_end : (order : Order) (bytes : List ℕ) (n m : ℕ) → n ≡ two_at order bytes 0 → m ≡ two_at order bytes (n + 2) → (m ≡ n → ⊥) → BeginsNoBlock order bytes
no_end order bytes n m first last differ = no_block order bytes (rw (← first, ← last) (grind (arith, nat_tests)))

pub whole_block : (order : Order) (bytes : List ℕ) (n m : ℕ) → n ≡ two_at order bytes 0 → n + 4 ≤ length bytes → m ≡ two_at order bytes (n + 2) → m ≡ n
    → GoesOn order bytes (take n (drop 2 bytes)) (drop (n + 4) bytes)
whole_block order [] n m first long last same = absurd (omega arith)
whole_block order (b ∷ bytes) n m first long last same = grind (arith, nat_tests, blocks_of-cons)

-- where no block begins in a run, it has none
pub none_left : (order : Order) (bytes : List ℕ) → IsSome (blocks_of order bytes) → BeginsNoBlock order bytes → unwrap_or (blocks_of order bytes) [] ≡ []
unfolding blocks_of
none_left order bytes run (inl empty) = rw empty
none_left order bytes run (inr none) = rw none

-- where no block begins, a run is at its end
pub run_ends : (order : Order) (rest : List ℕ) → BeginsNoBlock order rest → (length rest == 0) ≡ is_some (blocks_of order rest)
unfolding blocks_of
run_ends order [] ends = refl
run_ends order (b ∷ rest) (inl empty) = absurd cc
run_ends order (b ∷ rest) (inr none) = rw none (eqb-suc-zero (length rest))

pub some_left : (blocks : Option (List (List ℕ))) → IsSome blocks → blocks ≡ Some (unwrap_or blocks [])
some_left None some = cc
some_left (Some blocks) some = refl

-- Spelling.

-- the byte behind a place
two_bytes : (at : ℕ) (bytes : List ℕ) → at + 2 ≤ length bytes → take 2 (drop at bytes) ≡ get_or bytes at 0 ∷ get_or bytes (suc at) 0 ∷ []
two_bytes at bytes room = grind (arith, drop-cons)

spelled_little : (a b : ℕ) → a < 256 → b < 256 → spelled 2 Little (number Little (a ∷ b ∷ [])) ≡ a ∷ b ∷ []
unfolding spelled
spelled_little a b p q = grind arith

spelled_big : (a b : ℕ) → a < 256 → b < 256 → spelled 2 Big (number Big (a ∷ b ∷ [])) ≡ a ∷ b ∷ []
unfolding spelled
spelled_big a b p q = grind arith

spelled_pair : (order : Order) (a b : ℕ) → a < 256 → b < 256 → spelled 2 order (number order (a ∷ b ∷ [])) ≡ a ∷ b ∷ []
spelled_pair Little = spelled_little
spelled_pair Big = spelled_big

-- two bytes spell the number that they are
spelled-two_at : (order : Order) (bytes : List ℕ) (at : ℕ) → ((i : ℕ) → get_or bytes i 0 < 256) → at + 2 ≤ length bytes
    → spelled 2 order (two_at order bytes at) ≡ take 2 (drop at bytes)
unfolding number_at
spelled-two_at order bytes at fit room = rw (two_bytes at bytes room) (spelled_pair order (get_or bytes at 0) (get_or bytes (suc at) 0) (fit at) (fit (suc at)))

-- the two lengths, the block between them and what comes after
pieces : (n : ℕ) (bytes first last : List ℕ) → first ≡ take 2 bytes → last ≡ take 2 (drop (n + 2) bytes) → (first ++ (take n (drop 2 bytes) ++ last))
    ++ drop (n + 4) bytes ≡ bytes
pieces n bytes first last is_first is_last =
    let on : drop 2 (drop (n + 2) bytes) ≡ drop (n + 4) bytes = drop-drop 2 (n + 2) bytes ∙ ap (λ m. drop m bytes) (omega arith) in
    let behind : take 2 (drop (n + 2) bytes) ++ drop (n + 4) bytes ≡ drop (n + 2) bytes = rw (← on) (take-append-drop 2 (drop (n + 2) bytes)) in
    let to_last : drop n (drop 2 bytes) ≡ drop (n + 2) bytes = drop-drop n 2 bytes ∙ ap (λ m. drop m bytes) (omega arith) in
    let block : take n (drop 2 bytes) ++ drop (n + 2) bytes ≡ drop 2 bytes = rw (← to_last) (take-append-drop n (drop 2 bytes)) in
    let all : take 2 bytes ++ drop 2 bytes ≡ bytes = take-append-drop 2 bytes in
    rw (is_first, is_last) (simp append_assoc (rw (behind, block) all))

joined : (order : Order) (bytes : List ℕ) → ((i : ℕ) → get_or bytes i 0 < 256) → lacks_block order bytes ≡ false
    → block_bytes order (take (two_at order bytes 0) (drop 2 bytes)) ++ after_first order bytes ≡ bytes
joined order bytes fit lacks = grind (arith, nat_tests, length-take, length-drop, spelled-two_at, pieces)

spelled_rest : (order : Order) (bytes : List ℕ) (blocks : List (List ℕ)) (rest : Option (List (List ℕ))) → ((i : ℕ) → get_or bytes i 0 < 256)
    → lacks_block order bytes ≡ false
    → ((others : List (List ℕ)) → rest ≡ Some others → flat_map (block_bytes order) others ≡ after_first order bytes)
    → option_map (λ others. take (two_at order bytes 0) (drop 2 bytes) ∷ others) rest ≡ Some blocks → flat_map (block_bytes order) blocks ≡ bytes
spelled_rest order bytes blocks None fit whole on run = cc
spelled_rest order bytes blocks (Some others) fit whole on run = grind (arith, joined)

spelled_turn : (order : Order) (bytes : List ℕ) (blocks : List (List ℕ)) (rest : Option (List (List ℕ))) → ((i : ℕ) → get_or bytes i 0 < 256)
    → ((others : List (List ℕ)) → rest ≡ Some others → flat_map (block_bytes order) others ≡ after_first order bytes)
    → with_first order bytes rest ≡ Some blocks → flat_map (block_bytes order) blocks ≡ bytes
spelled_turn order bytes blocks rest fit on run = grind (arith, spelled_rest)

spelled_in : (turns : ℕ) (order : Order) (bytes : List ℕ) (blocks : List (List ℕ)) → ((i : ℕ) → get_or bytes i 0 < 256)
    → blocks_in turns order bytes ≡ Some blocks → flat_map (block_bytes order) blocks ≡ bytes
spelled_in turns order [] blocks fit run =
    let none : blocks ≡ [] = cc in rw none refl
spelled_in zero order (b ∷ bytes) blocks fit run = cc
spelled_in (suc turns) order (b ∷ bytes) blocks fit run =
    let rest : List ℕ = after_first order (b ∷ bytes) in
    let rest_fit : (i : ℕ) → get_or rest i 0 < 256 = λ i. rw (get_or-drop (two_at order (b ∷ bytes) 0 + 4) (b ∷ bytes) i 0)
    (fit (two_at order (b ∷ bytes) 0 + 4 + i)) in
    spelled_turn order (b ∷ bytes) blocks (blocks_in turns order rest) fit (λ others run. spelled_in turns order rest others rest_fit run) run

-- the blocks of a run, spelled, are the run
pub blocks_spelled : (order : Order) (bytes : List ℕ) (blocks : List (List ℕ)) → ((i : ℕ) → get_or bytes i 0 < 256) → blocks_of order bytes ≡ Some blocks
    → flat_map (block_bytes order) blocks ≡ bytes
unfolding blocks_of
blocks_spelled order bytes = spelled_in (length bytes) order bytes
