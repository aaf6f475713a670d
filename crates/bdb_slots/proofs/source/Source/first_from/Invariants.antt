use Rattle.std.proofs.Common.{◌≡◌}
use Rattle.bdb_slots.specs.Slots.{names_from}
use Rattle.bdb_slots.proofs.source.Source.first_from.Given as goal

-- No slot before this one names a page.
abbrev pub invariant-loop-at : goal.invariant-loop-at
invariant-loop-at l = names_from l.self l.slot ≡ names_from l.self l.at
