use Rattle.bdb_graph.proofs.of_faults.AscendLemmas.{chains_ascend}
use Rattle.bdb_graph.proofs.of_faults.FirstLemmas.{newly_noted}
use Rattle.bdb_graph.specs.of_format.Terms.{chain_faults, file_of}
use Rattle.bdb_overflow.proofs.RefusalLemmas.{first_told}
use Rattle.bdb_overflow.proofs.check.check_chains.Goals as goal

pub returns-in-Ok-clause-accepted : goal.returns-in-Ok-clause-accepted
returns-in-Ok-clause-accepted c =
    c.in-Ok.ensures.accepted (chain_faults (file_of c.args.linked.now)) (chains_ascend (file_of c.args.linked.now))
    (newly_noted c.note_chains-answer.result c.new-first.result c.note_chains-answer.new.found (chain_faults (file_of c.args.linked.now)) c.new-first.ensures
    c.note_chains-answer.ensures.noted)

pub returns-in-Err-Fault-clause-refusal : goal.returns-in-Err-Fault-clause-refusal
returns-in-Err-Fault-clause-refusal c =
    first_told (chain_faults (file_of c.args.linked.now)) c.in-Err-Fault.field-0 c.in-Err-Fault.named c.fault.result
    (c.in-Err-Fault.ensures.refused (chain_faults (file_of c.args.linked.now)) (chains_ascend (file_of c.args.linked.now))
    (newly_noted c.note_chains-answer.result c.new-first.result c.note_chains-answer.new.found (chain_faults (file_of c.args.linked.now)) c.new-first.ensures
    c.note_chains-answer.ensures.noted))
    c.in-Err-Fault.field-0-is c.fault.ensures
