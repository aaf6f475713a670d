use Rattle.std.proofs.Common.{◌∙◌, ap, sym}
use Rattle.std.specs.Prelude.{Err}
use Rattle.bdb_repair.specs.of_rescue.Guesses.{chosen}
use Rattle.bdb_tool.specs.Wants.{case_of, wanted_by}
use Rattle.bdb_tool.proofs.BuiltLemmas.{case_finishes, no_case_finishes, no_meta_finishes}
use Rattle.bdb_tool.proofs.WantLemmas.{none_wanted, wanted_finishes, wanted_memory}
use Rattle.bdb_repair.proofs.ClaimLemmas.{claims_within}
use Rattle.bdb_tool.proofs.salvaging.answer_damaged.Goals as goal

pub returns-in-Some-clause-answer : goal.returns-in-Some-clause-answer
returns-in-Some-clause-answer g c =
    case_finishes (case_of c.args.wanted c.args.guess c.args.image.now) c.in-Some.case
    (wanted_by c.args.wanted (chosen c.args.guess c.args.image.now) c.args.image.now) _ _ _ _ (sym c.in-Some.is ∙ c.case_of.ensures) c.tell_case.ensures

pub returns-in-Ok-clause-answer : goal.returns-in-Ok-clause-answer
returns-in-Ok-clause-answer g c =
    no_case_finishes (case_of c.args.wanted c.args.guess c.args.image.now)
    (wanted_by c.args.wanted (chosen c.args.guess c.args.image.now) c.args.image.now) _ _ _ (sym c.in_default.is ∙ c.case_of.ensures)
    (wanted_finishes c.args.wanted c.args.guess c.args.image.now c.in-Ok.salvaged _ _ _ c.in-Ok.ensures.guess c.in-Ok.ensures.image
    c.answer_salvaged.ensures.answer)

pub returns-in-Err-NoMeta-clause-answer : goal.returns-in-Err-NoMeta-clause-answer
returns-in-Err-NoMeta-clause-answer g c =
    no_case_finishes (case_of c.args.wanted c.args.guess c.args.image.now)
    (wanted_by c.args.wanted (chosen c.args.guess c.args.image.now) c.args.image.now) _ _ _ (sym c.in_default.is ∙ c.case_of.ensures)
    (no_meta_finishes _ _ _ _ _
    (none_wanted c.args.wanted c.args.guess c.args.image.now (c.in-Err-NoMeta.ensures.no_meta (ap (λ error. Err error) c.in-Err-NoMeta.field-0-is)))
    c.tell.ensures)

pub returns-in-Err-Memory-clause-answer : goal.returns-in-Err-Memory-clause-answer
returns-in-Err-Memory-clause-answer g c =
    no_case_finishes (case_of c.args.wanted c.args.guess c.args.image.now)
    (wanted_by c.args.wanted (chosen c.args.guess c.args.image.now) c.args.image.now) _ _ _ (sym c.in_default.is ∙ c.case_of.ensures)
    (wanted_memory c.args.wanted c.args.guess c.args.image.now _ _ _ _ c.tell_memory.ensures)

pub returns-in-Ok-clause-cost : goal.returns-in-Ok-clause-cost
returns-in-Ok-clause-cost g c =
    claims_within c.args.guess c.args.image.now c.in-Ok.salvaged _ _ c.in-Ok.ensures.guess c.in-Ok.ensures.image c.answer_salvaged.ensures.cost
