use Rattle.std.proofs.Common.{refl, subst}
use Rattle.bdb_swap.specs.Turns.{Turns}
use Rattle.bdb_law_turned.proofs.LeafLemmas.{leaf_ends}
use Rattle.bdb_swap.proofs.leaf.LeafKindTurnKind.turn_item.Goals as goal

-- An item of which no row holds ends on the page.
pub turn_leaf_item-requires-clause-inside : goal.turn_leaf_item-requires-clause-inside
turn_leaf_item-requires-clause-inside c =
    rw (c.from-at.ensures, c.offset_at.ensures, c.known_leaf_item.ensures) (leaf_ends c.args.order c.args.source.now c.args.index c.requires.sound)

pub returns-clause-turns : goal.returns-clause-turns
returns-clause-turns c =
    subst (λ fields. Turns c.args.source.now fields c.args.page.now c.turn_leaf_item.new.page)
    (rw (c.from-at.ensures, c.offset_at.ensures, c.known_leaf_item.ensures) refl) c.turn_leaf_item.ensures.turns
