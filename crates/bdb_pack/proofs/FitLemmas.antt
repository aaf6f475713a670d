-- What has room on a page fits its fields.
use Rattle.std.proofs.Common.{ℕ, ◌<◌, ◌≤◌, ◌^◌, List, [], ◌∷◌, ◌++◌, length, arith, length-append, All, flat_map}
use Rattle.std.proofs.lemmas.List.Elements.{All-cons, All-nil}
use Rattle.bdb_pack.proofs.Common.{Order, Set, block_bytes, hash_bytes, spelled}

blocks_fit : (order : Order) (blocks : List (List ℕ)) → length (flat_map (block_bytes order) blocks) < 2 ^ 16 → All (λ block. length block < 2 ^ 16) blocks
blocks_fit order [] short = All-nil (λ (block : List ℕ). length block < 2 ^ 16)
blocks_fit order (block ∷ blocks) short =
    let whole = length-append (block_bytes order block) (flat_map (block_bytes order) blocks) in
    let first = length-append (spelled 2 order (length block)) (block ++ spelled 2 order (length block)) in
    let last = length-append block (spelled 2 order (length block)) in
    All-cons (λ (b : List ℕ). length b < 2 ^ 16) block blocks (omega (arith, short, whole, first, last)) (blocks_fit order blocks (omega (arith, short, whole)))

-- the blocks of a set that has room are no longer than their lengths can say
pub set_fits : (order : Order) (blocks : List (List ℕ)) → length (hash_bytes order (Set blocks)) ≤ 32768 → All (λ block. length block < 2 ^ 16) blocks
unfolding hash_bytes
set_fits order blocks room = blocks_fit order blocks (omega (arith, room))
