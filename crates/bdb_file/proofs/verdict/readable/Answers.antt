use Rattle.std.proofs.Common.{List, [], ◌∷◌, subst, ℕ}
use Rattle.bdb_check.specs.of_format.Terms.{faults_in}
use Rattle.bdb_check.specs.of_any_order.AnyOrder.{faults_by_rows, stages_by}
use Rattle.bdb_file.proofs.VerdictLemmas.{forest_skipped, graph_alike, handed_up}
use Rattle.bdb_file.proofs.verdict.readable.Goals as goal

pub returns-in_err-linked-clause-refusal : goal.returns-in_err-linked-clause-refusal
returns-in_err-linked-clause-refusal g c =
    handed_up c.from_residual.result c.in_err-linked.field-0.0 (g.J.Judge.refuses (faults_by_rows c.args.rows c.args.formed))
    (g.met.J.Judge.alike (faults_in (3 ∷ 4 ∷ 5 ∷ []) c.args.formed) (faults_by_rows c.args.rows c.args.formed) c.in_err-linked.field-0.0
    (graph_alike c.args.rows c.args.formed c.requires) c.in_err-linked.ensures.refusal)
    c.from_residual.ensures.1

-- The linked file is that of the image.
pub returns-in_err-entries-clause-refusal : goal.returns-in_err-entries-clause-refusal
returns-in_err-entries-clause-refusal g c =
    handed_up c.from_residual-in_err-entries.result c.in_err-entries.field-0.0 (g.J.Judge.refuses (faults_by_rows c.args.rows c.args.formed))
    (g.met.J.Judge.alike (stages_by c.args.rows (6 ∷ 7 ∷ []) c.args.formed) (faults_by_rows c.args.rows c.args.formed) c.in_err-entries.field-0.0
    (λ some. forest_skipped c.args.rows c.args.formed c.requires c.in_ok-linked.ensures.accepted)
    (subst (λ (image : List ℕ). g.J.Judge.refuses (stages_by c.args.rows (6 ∷ 7 ∷ []) image) c.in_err-entries.field-0.0) c.in_ok-linked.ensures.linked
    c.in_err-entries.ensures.refusal))
    c.from_residual-in_err-entries.ensures.1
