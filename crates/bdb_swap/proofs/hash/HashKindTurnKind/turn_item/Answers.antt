use Rattle.std.proofs.Common.{◌∙◌, ap, subst}
use Rattle.bdb_io.specs.of_format.Terms.{Item, offset_of}
use Rattle.bdb_law_turned.specs.of_layout.Seen.{hash_item_seen}
use Rattle.bdb_law_turned.specs.Fields.{hash_fields}
use Rattle.bdb_swap.specs.Turns.{Turns}
use Rattle.bdb_law_turned.proofs.HashLemmas.{hash_ends_at}
use Rattle.bdb_swap.proofs.hash.HashKindTurnKind.turn_item.Goals as goal

-- An item of which no row holds ends on the page.
pub turn_hash_item-requires-clause-inside : goal.turn_hash_item-requires-clause-inside
turn_hash_item-requires-clause-inside c =
    hash_ends_at c.args.order c.args.source.now c.args.index c.from-at.result (hash_item_seen c.known_hash_item.result)
    (c.from-at.ensures ∙ c.offset_at.ensures) c.known_hash_item.ensures.item c.requires.sound

pub returns-clause-turns : goal.returns-clause-turns
returns-clause-turns c =
    subst (λ fields. Turns c.args.source.now fields c.args.page.now c.turn_hash_item.new.page)
    (rw (c.from-at.ensures, c.offset_at.ensures)
    (ap (λ (it : Item). hash_fields (offset_of c.args.order c.args.source.now c.args.index) it.content) c.known_hash_item.ensures.item))
    c.turn_hash_item.ensures.turns
