use Rattle.bdb_recno.specs.of_format.Terms.{file_of}
use Rattle.bdb_any_order.proofs.MergeLemmas.{structure_noted}
use Rattle.bdb_check.proofs.structure.note_structure.Goals as goal

pub returns : goal.returns
returns g c =
    structure_noted (g.F.FaultSink.has_noted c.args.found.now) (g.F.FaultSink.has_noted c.note_chains.new.found)
    (g.F.FaultSink.has_noted c.note_trees.new.found) (file_of c.args.linked.now)
    c.in_ok-note_chains.ensures.noted c.in_ok-note_trees.ensures
