use Rattle.std.proofs.Common.{ap}
use Rattle.std.specs.List.{flat_map}
use Rattle.bdb_damage.specs.of_apart.Text.{db_section}
use Rattle.bdb_tool_print.proofs.PrinterLemmas.{begins, cut_up, item_added, item_cut, items_added}
use Rattle.bdb_tool_print.proofs.printing.Printer.given_sections.Goals as goal

pub loop-db-init : goal.loop-db-init
loop-db-init g c =
    let same = c.into_iter-db-iterator.ensures.into_iter_gives in
    begins _ _ _ _ _ (ap (λ dbs. flat_map (db_section c.args.print) dbs.now) same)

pub loop-db-preserved : goal.loop-db-preserved
loop-db-preserved g c =
    item_added _ _ _ _ _ (db_section c.args.print) _ _ _ _ _ c.in-Some.ensures.steps c.in_ok-given_section.was c.loop-db.invariant c.given_section.ensures

pub returns-in_err-given_section : goal.returns-in_err-given_section
returns-in_err-given_section g c =
    let is = cut_up c.from_residual.result c.in_err-given_section.field-0.0 c.from_residual.ensures.1 in
    item_cut _ _ _ _ _ (db_section c.args.print) _ _ _ _ _ _ _ c.in-Some.ensures.steps c.in_err-given_section.was is c.loop-db.invariant
    c.given_section.ensures

pub returns : goal.returns
returns g c = items_added _ _ _ _ (db_section c.args.print) _ _ c.in-None.ensures.steps.0 c.loop-db.invariant
