use Rattle.std.proofs.Common.{subst, sym}
use Rattle.bdb_io.specs.of_format.Terms.{page_as}
use Rattle.bdb_law_turned.specs.Fields.{fields_of}
use Rattle.bdb_swap.specs.Turns.{Turns}
use Rattle.bdb_swap.proofs.page.turn_typed.Goals as goal

pub returns-in-HashMeta : goal.returns-in-HashMeta
unfolding fields_of
returns-in-HashMeta c =
    subst (λ t. Turns c.args.source.now (fields_of (page_as c.args.order c.args.source.now t)) c.args.page.now c.turn_hash_meta.new.page)
    (sym c.in-HashMeta.is) c.turn_hash_meta.ensures

pub returns-in-BtreeMeta : goal.returns-in-BtreeMeta
unfolding fields_of
returns-in-BtreeMeta c =
    subst (λ t. Turns c.args.source.now (fields_of (page_as c.args.order c.args.source.now t)) c.args.page.now c.turn_meta.new.page)
    (sym c.in-BtreeMeta.is) c.turn_meta.ensures

pub returns-in-QueueMeta : goal.returns-in-QueueMeta
unfolding fields_of
returns-in-QueueMeta c =
    subst (λ t. Turns c.args.source.now (fields_of (page_as c.args.order c.args.source.now t)) c.args.page.now c.turn_meta-in-QueueMeta.new.page)
    (sym c.in-QueueMeta.is) c.turn_meta-in-QueueMeta.ensures
