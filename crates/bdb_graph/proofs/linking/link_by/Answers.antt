use Rattle.std.proofs.Common.{◌≡◌, [], ◌∷◌, subst, IfOk}
use Rattle.bdb_image.proofs.of_faults.AscendLemmas.{faults_ascend}
use Rattle.bdb_image.proofs.of_faults.SinkLemmas.{all_noted}
use Rattle.bdb_image.specs.of_format.Terms.{faults_in, file_of}
use Rattle.bdb_graph.specs.Owned.{AreOwned}
use Rattle.bdb_graph.specs.Walked.{IsWalked}
use Rattle.bdb_graph.specs.declared.linking.Walk.{Walk}
use Rattle.bdb_graph.proofs.linking.link_by.Goals as goal

-- Of a sink that had noted nothing.
pub returns-in-Err-clause-refusal : goal.returns-in-Err-clause-refusal
returns-in-Err-clause-refusal g c =
    c.in-Err.ensures.refused (faults_in (3 ∷ 4 ∷ 5 ∷ []) c.args.formed) (faults_ascend c.args.formed (3 ∷ 4 ∷ 5 ∷ []))
    (all_noted c.note_graph-answer.result (g.J.FaultSink.has_noted c.begin-found.result) (g.J.FaultSink.has_noted c.note_graph-answer.new.found)
    (faults_in (3 ∷ 4 ∷ 5 ∷ []) c.args.formed) c.begin-found.ensures c.note_graph-answer.ensures.noted)

pub walked-requires : goal.walked-requires
walked-requires g c =
    let none : faults_in (3 ∷ 4 ∷ 5 ∷ []) c.args.formed ≡ [] =
    c.in-Ok.ensures.accepted (faults_in (3 ∷ 4 ∷ 5 ∷ []) c.args.formed) (faults_ascend c.args.formed (3 ∷ 4 ∷ 5 ∷ []))
    (all_noted c.note_graph-answer.result (g.J.FaultSink.has_noted c.begin-found.result) (g.J.FaultSink.has_noted c.note_graph-answer.new.found)
    (faults_in (3 ∷ 4 ∷ 5 ∷ []) c.args.formed) c.begin-found.ensures c.note_graph-answer.ensures.noted) in
    record {
      walked =
          subst (λ r. IfOk r (λ (walk : Walk). faults_in (3 ∷ 4 ∷ 5 ∷ []) c.args.formed ≡ [] → IsWalked c.args.formed walk.kinds))
          c.in-Ok.ensures.value c.note_graph-answer.ensures.walked none;
      owned =
          subst (λ r. IfOk r (λ (walk : Walk). faults_in (3 ∷ 4 ∷ 5 ∷ []) c.args.formed ≡ []
          → AreOwned (file_of c.args.formed) walk.owned.items))
          c.in-Ok.ensures.value c.note_graph-answer.ensures.owned none;
    }
