use Rattle.std.proofs.Common.{◌+◌, ap, map, length, arith}
use Rattle.std.specs.List.{enumerate_from}
use Rattle.bdb_tool_print.specs.Printers.{pair_text}
use Rattle.bdb_damage.specs.of_rescue.Text.{numbered_record}
use Rattle.bdb_tool_print.proofs.PrinterLemmas.{cut_up, item_added, item_cut}
use Rattle.bdb_tool_print.proofs.printing.Printer.records.Goals as goal

pub loop-record-preserved : goal.loop-record-preserved
loop-record-preserved g c = (
  omega (arith, ap length c.in-Some.ensures.steps),
  item_added _ _ _ _ _ (pair_text c.args.print) _ _ _ _ _
      (ap (λ records. map numbered_record (enumerate_from (c.loop-record.number + 1) records)) c.in-Some.ensures.steps)
      c.in_ok-pair.was c.loop-record.invariant.1 c.pair.ensures,
)

pub returns-in_err-pair : goal.returns-in_err-pair
returns-in_err-pair g c =
    let is = cut_up c.from_residual.result c.in_err-pair.field-0.0 c.from_residual.ensures.1 in
    item_cut _ _ _ _ _ (pair_text c.args.print) _ _ _ _ _ _ _
    (ap (λ records. map numbered_record (enumerate_from (c.loop-record.number + 1) records)) c.in-Some.ensures.steps)
    c.in_err-pair.was is c.loop-record.invariant.1
    c.pair.ensures
