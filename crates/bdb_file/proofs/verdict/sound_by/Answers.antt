use Rattle.std.proofs.Common.{List, ℕ, subst}
use Rattle.bdb_check.specs.of_format.declared.kinds.Fault.{Fault}
use Rattle.bdb_check.specs.of_format.Terms.{faults_of}
use Rattle.bdb_check.proofs.of_any_order.RowsLemmas.{all_faults}
use Rattle.bdb_file.proofs.VerdictLemmas.{handed_up}
use Rattle.bdb_file.proofs.verdict.sound_by.Goals as goal

pub returns-in_err-readable-clause-refusal : goal.returns-in_err-readable-clause-refusal
returns-in_err-readable-clause-refusal g c =
    handed_up c.from_residual.result c.in_err-readable.field-0.0 (g.J.Judge.refuses (faults_of c.args.image.now))
    (subst (λ (fs : List Fault). g.J.Judge.refuses fs c.in_err-readable.field-0.0) (all_faults c.args.image.now) c.in_err-readable.ensures.refusal)
    c.from_residual.ensures.1
