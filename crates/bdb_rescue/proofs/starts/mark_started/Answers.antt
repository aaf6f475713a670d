use Rattle.std.proofs.Common.{◌++◌, [], cond, sym, ◌∙◌, ap, subst}
use Rattle.bdb_text_format.specs.of_format.Terms.{File, chain}
use Rattle.bdb_rescue.specs.Marks.{Marks}
use Rattle.bdb_rescue.proofs.starts.mark_started.Goals as goal

pub returns-then-starts-clause-marks : goal.returns-then-starts-clause-marks
returns-then-starts-clause-marks c = λ count ps before.
    subst (λ xs. Marks count c.mark_row.new.taken (ps ++ xs))
    (c.over.ensures ∙ (ap (λ (f : File). chain f c.args.page) c.again.ensures
    ∙ sym (ap (λ b. cond b (chain c.args.pages.now c.args.page) []) c.if-starts.true)))
    (c.mark_row.ensures.marks count ps before)
