use Rattle.std.proofs.Common.{◌∙◌, sym}
use Rattle.bdb_survey.proofs.MetaLemmas.{other_given}
use Rattle.bdb_survey.proofs.metadata.meta_on.Goals as goal

-- No page without a row of form is metadata of a queue.
pub returns-in_default : goal.returns-in_default
returns-in_default c = record {
  meta = sym (other_given c.args.order c.args.last c.args.number c.args.page.now c.requires.size c.requires.number c.requires.form
      (λ is. c.in_default.not-HashMeta (c.page_type.ensures ∙ is)) (λ is. c.in_default.not-BtreeMeta (c.page_type.ensures ∙ is)));
  few = tt;
}
