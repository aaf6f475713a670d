use Rattle.std.proofs.Common.{ap, map}
use Rattle.std.specs.List.{flat_map}
use Rattle.bdb_tool_print.specs.Printers.{pair_text}
use Rattle.bdb_damage.specs.of_rescue.Text.{bytes_pair}
use Rattle.bdb_tool_print.proofs.PrinterLemmas.{begins, cut_up, item_added, item_cut, items_added}
use Rattle.bdb_tool_print.proofs.printing.Printer.pairs_left.Goals as goal

pub loop-key-init : goal.loop-key-init
loop-key-init g c =
    let same = c.into_iter-key-iterator.ensures.into_iter_gives in
    begins _ _ _ _ _ (ap (λ pairs. flat_map (pair_text c.args.print) (map bytes_pair pairs.now)) same)

pub loop-key-preserved : goal.loop-key-preserved
loop-key-preserved g c =
    item_added _ _ _ _ _ (pair_text c.args.print) _ _ _ _ _
    (ap (map bytes_pair) c.in-Some.ensures.steps) c.in_ok-pair.was c.loop-key.invariant c.pair.ensures

pub returns-in_err-pair : goal.returns-in_err-pair
returns-in_err-pair g c =
    let is = cut_up c.from_residual.result c.in_err-pair.field-0.0 c.from_residual.ensures.1 in
    item_cut _ _ _ _ _ (pair_text c.args.print) _ _ _ _ _ _ _
    (ap (map bytes_pair) c.in-Some.ensures.steps) c.in_err-pair.was is c.loop-key.invariant c.pair.ensures

pub returns : goal.returns
returns g c = items_added _ _ _ _ (pair_text c.args.print) _ _ (ap (map bytes_pair) c.in-None.ensures.steps.0) c.loop-key.invariant
