use Rattle.std.proofs.Common.{◌≡◌, take, flat_map}
use Rattle.bdb_layout.specs.of_format.Terms.{overwritten, spelled}
use Rattle.bdb_meta.proofs.table.put_spares.Given as goal

-- The spares so far are written, and nothing else.
abbrev pub invariant-loop-group : goal.invariant-loop-group
invariant-loop-group l = l.page ≡ overwritten l.initial.page 96 (flat_map (λ spare. spelled 4 l.order spare) (take l.group l.spares))
