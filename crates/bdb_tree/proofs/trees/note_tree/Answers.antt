use Rattle.std.proofs.Common.{subst, sym, OnOk}
use Rattle.bdb_faults.specs.Notes.{NotesAll}
use Rattle.bdb_overflow.specs.of_format.Terms.{file_of}
use Rattle.bdb_tree.specs.Noted.{root_faults}
use Rattle.bdb_tree.proofs.trees.note_tree.Goals as goal

pub returns-in-Some : goal.returns-in-Some
returns-in-Some g c =
    subst (λ root. OnOk c.note_leaves.result (NotesAll (g.F.FaultSink.has_noted c.args.found.now) (g.F.FaultSink.has_noted c.note_leaves.new.found)
    (root_faults (file_of c.args.forest.now) c.args.sort root))) (sym c.in-Some.is) c.note_leaves.ensures
