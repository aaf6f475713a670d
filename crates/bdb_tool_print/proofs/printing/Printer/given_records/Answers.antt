use Rattle.std.proofs.Common.{ap, map}
use Rattle.std.specs.List.{flat_map}
use Rattle.bdb_tool_print.specs.Printers.{pair_text}
use Rattle.bdb_damage.specs.of_rescue.Text.{numbered_record}
use Rattle.bdb_tool_print.proofs.PrinterLemmas.{begins, cut_up, item_added, item_cut, items_added}
use Rattle.bdb_tool_print.proofs.printing.Printer.given_records.Goals as goal

pub loop-number-init : goal.loop-number-init
loop-number-init g c =
    let same = c.into_iter-number-iterator.ensures.into_iter_gives in
    begins _ _ _ _ _ (ap (λ pairs. flat_map (pair_text c.args.print) (map numbered_record pairs.now)) same)

pub loop-number-preserved : goal.loop-number-preserved
loop-number-preserved g c =
    item_added _ _ _ _ _ (pair_text c.args.print) _ _ _ _ _
    (ap (map numbered_record) c.in-Some.ensures.steps) c.in_ok-pair.was c.loop-number.invariant c.pair.ensures

pub returns-in_err-pair : goal.returns-in_err-pair
returns-in_err-pair g c =
    let is = cut_up c.from_residual.result c.in_err-pair.field-0.0 c.from_residual.ensures.1 in
    item_cut _ _ _ _ _ (pair_text c.args.print) _ _ _ _ _ _ _
    (ap (map numbered_record) c.in-Some.ensures.steps) c.in_err-pair.was is c.loop-number.invariant c.pair.ensures

pub returns : goal.returns
returns g c = items_added _ _ _ _ (pair_text c.args.print) _ _ (ap (map numbered_record) c.in-None.ensures.steps.0) c.loop-number.invariant
