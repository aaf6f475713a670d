use Rattle.std.proofs.Common.{sym, subst}
use Rattle.bdb_btree.specs.of_faults.Notes.{NotesAll}
use Rattle.bdb_master.specs.Entries.{by_repeat}
use Rattle.bdb_master.proofs.MasterLemmas.{master_noted}
use Rattle.bdb_master.proofs.master.note_master.Goals as goal

pub returns : goal.returns
returns g c =
    master_noted c.args.linked.now c.args.entries.now (g.F.FaultSink.has_noted c.args.found.now) (g.F.FaultSink.has_noted c.note_naming.new.found)
    (g.F.FaultSink.has_noted c.note_targets.new.found)
    (g.F.FaultSink.has_noted c.note_repeats.new.found) c.note_naming.ensures.forest c.requires.entries c.in_ok-note_naming.ensures.noted
    c.in_ok-note_targets.ensures
    (subst (λ entries. NotesAll (g.F.FaultSink.has_noted c.note_targets.new.found) (g.F.FaultSink.has_noted c.note_repeats.new.found) (by_repeat entries))
    (sym c.requires.entries)
    c.in_ok-note_repeats.ensures)
