use Rattle.std.proofs.Common.{List}
use Rattle.bdb_ranks.specs.of_format.Terms.{BtreeFields, File, database_faults, file_of}
use Rattle.bdb_ranks.specs.of_format.declared.kinds.Fault.{Fault}
use Rattle.bdb_faults.proofs.AscendLemmas.{database_ascends}
use Rattle.bdb_faults.proofs.FirstLemmas.{newly_noted}
use Rattle.bdb_btree.proofs.contents.check.Goals as goal

pub returns-clause-accepted : goal.returns-clause-accepted
returns-clause-accepted c =
    let file : File = file_of c.args.linked.now in
    let faults : List Fault = database_faults file (BtreeFields c.args.meta.now) in
    c.checked.ensures.accepted faults (database_ascends file (BtreeFields c.args.meta.now))
    (newly_noted c.note_contents-answer.result c.new-first.result c.note_contents-answer.new.found faults c.new-first.ensures c.note_contents-answer.ensures.noted)

pub returns-clause-refusal : goal.returns-clause-refusal
returns-clause-refusal c =
    let file : File = file_of c.args.linked.now in
    let faults : List Fault = database_faults file (BtreeFields c.args.meta.now) in
    c.checked.ensures.refused faults (database_ascends file (BtreeFields c.args.meta.now))
    (newly_noted c.note_contents-answer.result c.new-first.result c.note_contents-answer.new.found faults c.new-first.ensures c.note_contents-answer.ensures.noted)
