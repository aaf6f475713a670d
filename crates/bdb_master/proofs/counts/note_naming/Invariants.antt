use Rattle.std.specs.Prelude.{take}
use Rattle.std.specs.List.{flat_map}
use Rattle.bdb_format.specs.Terms.{file_of}
use Rattle.bdb_btree.specs.of_faults.Notes.{NotesAll}
use Rattle.bdb_btree.specs.of_image.Linked.{meta_pages}
use Rattle.std.specs.Option.{option_to_list}
use Rattle.bdb_master.specs.Entries.{naming_fault}
use Rattle.bdb_master.proofs.counts.note_naming.Given as goal

-- The faults of the metadata pages so far are noted.
abbrev pub invariant-loop-i : goal.invariant-loop-i
invariant-loop-i g l =
    NotesAll (g.F.FaultSink.has_noted l.fn.found) (g.F.FaultSink.has_noted l.found)
    (flat_map (λ p. option_to_list (naming_fault l.entries p)) (take l.i (meta_pages (file_of l.linked))))
