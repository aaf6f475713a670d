use Rattle.std.proofs.Common.{List, ℕ, subst}
use Rattle.bdb_faults.specs.Notes.{NotesAll}
use Rattle.bdb_ranks.specs.of_format.Terms.{BtreeFields, database_faults, file_of}
use Rattle.bdb_btree.proofs.contents.note_contents.Goals as goal

pub returns-clause-noted : goal.returns-clause-noted
returns-clause-noted g c =
    subst (λ (image : List ℕ). NotesAll (g.F.FaultSink.has_noted c.args.found.now) (g.F.FaultSink.has_noted c.note_forest.new.found)
    (database_faults (file_of image) (BtreeFields c.args.meta.now))) c.forest-forest.ensures c.in_ok-note_forest.ensures.noted
