use Rattle.std.proofs.Common.{[], ◌∷◌}
use Rattle.bdb_check.specs.of_format.Terms.{faults_in}
use Rattle.bdb_check.specs.of_any_order.AnyOrder.{faults_by_rows}
use Rattle.bdb_file.proofs.VerdictLemmas.{form_alike, handed_up}
use Rattle.bdb_file.proofs.verdict.verify_by.Goals as goal

pub returns-in_err-formed-clause-refusal : goal.returns-in_err-formed-clause-refusal
returns-in_err-formed-clause-refusal g c =
    handed_up c.from_residual.result c.in_err-formed.field-0.0 (g.J.Judge.refuses (faults_by_rows c.args.rows c.args.image.now))
    (g.met.J.Judge.alike (faults_in (1 ∷ 2 ∷ []) c.args.image.now) (faults_by_rows c.args.rows c.args.image.now) c.in_err-formed.field-0.0
    (form_alike c.args.rows c.args.image.now) c.in_err-formed.ensures.refusal)
    c.from_residual.ensures.1
