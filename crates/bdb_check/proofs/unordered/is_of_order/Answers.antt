use Rattle.std.proofs.Common.{ap, sym, ◌∙◌}
use Rattle.bdb_any_order.specs.AnyOrder.{is_of_order}
use Rattle.bdb_recno.specs.of_format.Terms.{fault_at}
use Rattle.bdb_recno.specs.of_format.declared.rows.Row.{Row}
use Rattle.bdb_check.proofs.unordered.is_of_order.Goals as goal

pub returns-in-Contents : goal.returns-in-Contents
returns-in-Contents c = λ page. c.tells_order.ensures page ∙ ap (λ (row : Row). is_of_order (fault_at row page)) (sym c.in-Contents.is)
