use Rattle.std.proofs.Common.{◌∙◌, ap, subst}
use Rattle.bdb_law_turned.specs.Fields.{internal_fields}
use Rattle.bdb_swap.specs.Turns.{Turns}
use Rattle.bdb_law_turned.proofs.InnerLemmas.{internal_ends_at}
use Rattle.bdb_swap.proofs.internal.InternalKindTurnKind.turn_item.Goals as goal

-- An item of which no row holds ends on the page.
pub turn_internal_item-requires-clause-inside : goal.turn_internal_item-requires-clause-inside
turn_internal_item-requires-clause-inside c =
    internal_ends_at c.args.order c.args.source.now c.args.index c.from-at.result _ (c.from-at.ensures ∙ c.offset_at.ensures)
    c.known_internal_item.ensures c.requires.sound

pub returns-clause-turns : goal.returns-clause-turns
returns-clause-turns c =
    subst (λ fields. Turns c.args.source.now fields c.args.page.now c.turn_internal_item.new.page)
    (rw (c.from-at.ensures, c.offset_at.ensures) (ap (internal_fields _) c.known_internal_item.ensures)) c.turn_internal_item.ensures.turns
