use Rattle.std.proofs.Common.{◌≡◌, map, take}
use Rattle.bdb_graph.specs.declared.tally.Tally.{Tally}
use Rattle.bdb_graph.proofs.roles.Roles.counts.Given as goal

-- The counts of the tallies passed.
abbrev pub invariant-loop-tally : goal.invariant-loop-tally
invariant-loop-tally l = l.counts.items ≡ map (λ (tally : Tally). tally.count) (take l.tally-index l.tally-items)
