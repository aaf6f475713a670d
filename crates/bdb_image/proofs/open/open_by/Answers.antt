use Rattle.std.proofs.Common.{[], ◌∷◌}
use Rattle.bdb_faults.proofs.AscendLemmas.{faults_ascend}
use Rattle.bdb_faults.proofs.SinkLemmas.{all_noted}
use Rattle.bdb_faults.specs.of_format.Terms.{faults_in}
use Rattle.bdb_image.proofs.open.open_by.Goals as goal

-- Of a sink that had noted nothing.
pub formed_by-requires-clause-form : goal.formed_by-requires-clause-form
formed_by-requires-clause-form g c =
    c.in-Ok.ensures.accepted (faults_in (1 ∷ 2 ∷ []) c.args.image.now) (faults_ascend c.args.image.now (1 ∷ 2 ∷ []))
    (all_noted c.note_form-answer.result (g.J.FaultSink.has_noted c.begin-found.result) (g.J.FaultSink.has_noted c.note_form-answer.new.found)
    (faults_in (1 ∷ 2 ∷ []) c.args.image.now) c.begin-found.ensures c.note_form-answer.ensures.noted)

pub returns-in-Err-clause-refusal : goal.returns-in-Err-clause-refusal
returns-in-Err-clause-refusal g c =
    c.in-Err.ensures.refused (faults_in (1 ∷ 2 ∷ []) c.args.image.now) (faults_ascend c.args.image.now (1 ∷ 2 ∷ []))
    (all_noted c.note_form-answer.result (g.J.FaultSink.has_noted c.begin-found.result) (g.J.FaultSink.has_noted c.note_form-answer.new.found)
    (faults_in (1 ∷ 2 ∷ []) c.args.image.now) c.begin-found.ensures c.note_form-answer.ensures.noted)
