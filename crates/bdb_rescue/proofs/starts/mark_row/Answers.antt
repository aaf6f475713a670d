use Rattle.std.proofs.Common.{◌≡◌, ◌++◌, ◌∷◌, [], sym, ◌∙◌, ap, subst}
use Rattle.std.proofs.lemmas.List.{append_assoc}
use Rattle.bdb_rescue.specs.Marks.{Marks}
use Rattle.bdb_rescue.proofs.StoredLemmas.{append_nil}
use Rattle.bdb_rescue.proofs.starts.mark_row.Goals as goal

-- One page more.
pub loop-page-preserved : goal.loop-page-preserved
loop-page-preserved c = record {
  marks = λ count ps before.
      subst (Marks count c.mark.new.marks) (append_assoc ps c.loop-page.yielded (c.in-Some.page ∷ []))
      (c.mark.ensures.marks count (ps ++ c.loop-page.yielded) (c.loop-page.invariant.marks count ps before));
  length = c.mark.ensures.length ∙ c.loop-page.invariant.length;
  all =
      append_assoc c.loop-page.yielded (c.in-Some.page ∷ []) c.next.new.self
      ∙ (ap (λ xs. c.loop-page.yielded ++ xs) (sym c.in-Some.ensures.steps) ∙ c.loop-page.invariant.all);
}

pub returns-clause-marks : goal.returns-clause-marks
returns-clause-marks c = λ count ps before.
    let all : c.loop-page.yielded ≡ c.args.row =
    sym (append_nil c.loop-page.yielded) ∙ (ap (λ xs. c.loop-page.yielded ++ xs) (sym c.in-None.ensures.steps.0) ∙ c.loop-page.invariant.all) in
    subst (λ xs. Marks count c.loop-page.taken (ps ++ xs)) all (c.loop-page.invariant.marks count ps before)
