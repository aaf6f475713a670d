use Rattle.std.proofs.Common.{List, ℕ, sym, ◌∙◌, subst}
use Rattle.bdb_btree.specs.of_faults.Notes.{NotesAll}
use Rattle.bdb_btree.proofs.of_faults.SinkLemmas.{notes_none}
use Rattle.bdb_master.specs.Entries.{by_repeat, live_entries}
use Rattle.bdb_master.proofs.EntryLemmas.{entries_of_master, no_entries}
use Rattle.bdb_format.specs.Terms.{file_of}
use Rattle.bdb_master.proofs.repeats.note_repeats.Goals as goal

pub returns-in_ok-note_repeated : goal.returns-in_ok-note_repeated
returns-in_ok-note_repeated g c =
    subst (λ entries. NotesAll (g.F.FaultSink.has_noted c.args.found.now) (g.F.FaultSink.has_noted c.note_repeated.new.found) (by_repeat entries))
    (entries_of_master (file_of c.args.linked.now) c.in-Some.meta c.pairs.result (sym c.in-Some.is ∙ c.master_of.ensures) c.pairs.ensures.pairs)
    (subst (λ (image : List ℕ). NotesAll (g.F.FaultSink.has_noted c.args.found.now) (g.F.FaultSink.has_noted c.note_repeated.new.found)
    (by_repeat (live_entries (file_of image) c.pairs.result))) c.forest.ensures c.in_ok-note_repeated.ensures)

-- A file without a master has no pairs.
pub returns-in_default : goal.returns-in_default
returns-in_default g c =
    subst (λ entries. NotesAll (g.F.FaultSink.has_noted c.args.found.now) (g.F.FaultSink.has_noted c.args.found.now) (by_repeat entries))
    (no_entries (file_of c.args.linked.now) (sym c.in_default.is ∙ c.master_of.ensures)) (notes_none (g.F.FaultSink.has_noted c.args.found.now))
