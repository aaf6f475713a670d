use Rattle.std.specs.Prelude.{take}
use Rattle.bdb_format.specs.Terms.{file_of}
use Rattle.bdb_btree.specs.of_faults.Notes.{NotesAll}
use Rattle.bdb_master.specs.Entries.{by_target}
use Rattle.bdb_master.proofs.targets.note_targets.Given as goal

-- The faults of the pairs so far are noted.
abbrev pub invariant-loop-entry : goal.invariant-loop-entry
invariant-loop-entry g l =
    NotesAll (g.F.FaultSink.has_noted l.fn.found) (g.F.FaultSink.has_noted l.found) (by_target (file_of l.linked) (take l.entry-index l.entries))
