use Rattle.std.proofs.Common.{refl}
use Rattle.bdb_tool_print.specs.Printers.{pair_text}
use Rattle.bdb_tool_print.proofs.PrinterLemmas.{begins, cut_up, item_added, item_cut, items_added}
use Rattle.bdb_tool_dump.proofs.dumping.pairs.Goals as goal

pub loop-key-init : goal.loop-key-init
loop-key-init g c = begins _ _ _ _ _ refl

pub loop-key-preserved : goal.loop-key-preserved
loop-key-preserved g c = item_added _ _ _ _ _ (pair_text c.args.print) _ _ _ _ _ c.in-Some.ensures.steps c.in_ok-pair.was c.loop-key.invariant c.pair.ensures

pub returns-in_err-pair : goal.returns-in_err-pair
returns-in_err-pair g c =
    let is = cut_up c.from_residual.result c.in_err-pair.field-0.0 c.from_residual.ensures.1 in
    item_cut _ _ _ _ _ (pair_text c.args.print) _ _ _ _ _ _ _ c.in-Some.ensures.steps c.in_err-pair.was is c.loop-key.invariant c.pair.ensures

pub returns : goal.returns
returns g c = items_added _ _ _ _ (pair_text c.args.print) _ _ c.in_default.ensures.steps.0 c.loop-key.invariant
