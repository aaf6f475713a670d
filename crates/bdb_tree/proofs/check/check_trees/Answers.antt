use Rattle.std.proofs.Common.{List}
use Rattle.bdb_overflow.specs.of_format.declared.kinds.Fault.{Fault}
use Rattle.bdb_overflow.specs.of_format.Terms.{File, file_of, tree_faults}
use Rattle.bdb_faults.proofs.AscendLemmas.{leaves_ascend}
use Rattle.bdb_faults.proofs.FirstLemmas.{newly_noted}
use Rattle.bdb_tree.proofs.check.check_trees.Goals as goal

pub returns-clause-accepted : goal.returns-clause-accepted
returns-clause-accepted c =
    let file : File = file_of c.args.linked.now in
    let faults : List Fault = tree_faults file in
    c.checked.ensures.accepted faults (leaves_ascend file)
    (newly_noted c.note_trees-answer.result c.new-first.result c.note_trees-answer.new.found faults c.new-first.ensures c.note_trees-answer.ensures)

pub returns-clause-refusal : goal.returns-clause-refusal
returns-clause-refusal c =
    let file : File = file_of c.args.linked.now in
    let faults : List Fault = tree_faults file in
    c.checked.ensures.refused faults (leaves_ascend file)
    (newly_noted c.note_trees-answer.result c.new-first.result c.note_trees-answer.new.found faults c.new-first.ensures c.note_trees-answer.ensures)
