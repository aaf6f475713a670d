use Rattle.std.specs.Prelude.{take}
use Rattle.bdb_master.specs.Entries.{AreCounts}
use Rattle.bdb_master.proofs.counts.counts_of.Given as goal

-- The pairs so far are counted.
abbrev pub invariant-loop-entry : goal.invariant-loop-entry
invariant-loop-entry l = AreCounts l.counts.items l.pages (take l.entry-index l.entries)
