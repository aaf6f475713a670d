use Rattle.std.proofs.Common.{◌∙◌, sym}
use Rattle.bdb_repair.specs.of_apart.Text.{rest_text}
use Rattle.bdb_tool_ask.proofs.of_tool_lines.FinishLemmas.{written_finishes}
use Rattle.bdb_tool_ask.specs.of_tool_print.Survey.{survey_text}
use Rattle.bdb_tool.proofs.BuiltLemmas.{apart_finishes, no_database, no_meta_finishes}
use Rattle.bdb_tool.proofs.salvaging.answer_known.Goals as goal

pub returns-in-Some : goal.returns-in-Some
returns-in-Some g c =
    rw c.in-Apart.is
    (apart_finishes c.args.apart.now c.in-Apart.print _ _ _ _ _ _ (sym c.databases.ensures ∙ c.in-Some.ensures.steps) c.write_apart.ensures c.report.ensures)

pub returns-in-None : goal.returns-in-None
returns-in-None g c =
    rw c.in-Apart.is
    (no_meta_finishes _ _ _ _ _ (no_database c.args.apart.now c.in-Apart.print (sym c.databases.ensures ∙ c.in-None.ensures.steps.0)) c.tell.ensures)

pub returns-in-Rest : goal.returns-in-Rest
returns-in-Rest g c =
    rw c.in-Rest.is
    (written_finishes (rest_text c.in-Rest.print c.args.apart.now.guess c.args.apart.now.image) _ _ _ _ c.write_rest.ensures c.report-in-Rest.ensures)

pub returns-in-Survey : goal.returns-in-Survey
returns-in-Survey g c =
    rw c.in-Survey.is (written_finishes (survey_text c.in-Survey.case c.args.apart.now) _ _ _ _ c.write_survey.ensures c.report-in-Survey.ensures)
