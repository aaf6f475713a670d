use Rattle.std.specs.Prelude.{◌≡◌, take}
use Rattle.std.specs.List.{flat_map}
use Rattle.bdb_recno.specs.of_format.Terms.{file_of}
use Rattle.bdb_recno.specs.of_faults.Notes.{NotesAll}
use Rattle.bdb_recno.specs.of_image.Linked.{meta_pages}
use Rattle.bdb_any_order.specs.Noted.{asked_on}
use Rattle.bdb_check.proofs.contents.note_databases.Given as goal

-- The faults of those databases so far that are asked for are noted.
abbrev pub invariant-loop-i : goal.invariant-loop-i
invariant-loop-i g l = record {
  noted : NotesAll (g.F.FaultSink.has_noted l.fn.found) (g.F.FaultSink.has_noted l.found)
      (flat_map (asked_on l.which (file_of l.linked)) (take l.i (meta_pages (file_of l.linked))));
  known : l.known ≡ l.linked;
  chains : l.chains ≡ l.linked;
}
