use Rattle.std.proofs.Common.{◌∙◌, ◌+◌, ◌≤◌, ap, arith, length, subst}
use Rattle.bdb_io.specs.of_format.Terms.{offset_of}
use Rattle.bdb_law_turned.proofs.of_layout.RowLemmas.{recno_fits}
use Rattle.bdb_law_turned.specs.Fields.{recno_fields}
use Rattle.bdb_swap.specs.Turns.{Turns}
use Rattle.bdb_swap.proofs.recno.RecnoInternalKindTurnKind.turn_item.Goals as goal

-- An item of which no row holds ends on the page.
pub turn_recno_item-requires-clause-inside : goal.turn_recno_item-requires-clause-inside
turn_recno_item-requires-clause-inside c =
    let ends : offset_of c.args.order c.args.source.now c.args.index + 8 ≤ length c.args.source.now =
    recno_fits c.args.order c.args.source.now c.args.index c.requires.sound in
    omega (arith, c.from.ensures, c.offset_at.ensures)

pub returns-clause-turns : goal.returns-clause-turns
returns-clause-turns c =
    subst (λ fields. Turns c.args.source.now fields c.args.page.now c.turn_recno_item.new.page)
    (ap recno_fields (c.from.ensures ∙ c.offset_at.ensures)) c.turn_recno_item.ensures.turns
