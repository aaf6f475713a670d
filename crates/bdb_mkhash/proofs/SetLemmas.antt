-- A set that is spelled is a run of its blocks.
use Rattle.std.proofs.Common.{◌≡◌, ℕ, ◌<◌, List, [], ◌∷◌, length, ap, ◌∙◌, arith, ◌^◌, Some, option_map, All, flat_map}
use Rattle.bdb_mkhash.proofs.Common.{append-nil, drop_all, Order, block_bytes, blocks_of, overwritten, spelled, length-spelled, run_in}
use Rattle.bdb_mktree.proofs.of_layout.ReadBackLemmas.{blocks_of-back}

-- two bytes that are written whole
pub spelled_over : (order : Order) (x : ℕ) → overwritten (0 ∷ 0 ∷ []) 0 (spelled 2 order x) ≡ spelled 2 order x
spelled_over order x = grind (arith, drop_all, length-spelled, append-nil)

-- the set that is read from it
pub set_read : (order : Order) (values : List (List ℕ)) (run : List ℕ) → All (λ value. length value < 2 ^ 16) values
    → run ≡ flat_map (block_bytes order) values → option_map (run_in order) (blocks_of order run) ≡ Some (run_in order values)
set_read order values run short is = ap (λ bs. option_map (run_in order) (blocks_of order bs)) is ∙ ap (option_map (run_in order))
    (blocks_of-back order values short)
