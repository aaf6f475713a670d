use Rattle.bdb_mkhash.proofs.Common.{◌≡◌, take, flat_map, values_seen, block_bytes}
use Rattle.bdb_mkhash.proofs.sets.spell_set.Given as goal

-- The data passed are spelled.
abbrev pub invariant-loop-i : goal.invariant-loop-i
invariant-loop-i l = l.run ≡ flat_map (block_bytes l.order) (take l.i (values_seen l.values))
