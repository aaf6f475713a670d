use Rattle.std.proofs.Common.{◌∙◌, ap, sym}
use Rattle.bdb_faults.specs.of_format.Terms.{content_targets}
use Rattle.bdb_slots.proofs.PlainLemmas.{one_more}
use Rattle.bdb_image.proofs.plain.holds_none.Goals as goal

pub loop-item-preserved : goal.loop-item-preserved
loop-item-preserved g c =
    one_more g.K.ContentKind.content_of (g.K.ItemKind.item_seen c.in-Some.item) c.loop-item.item-iterator c.args.page.now.items c.next.new.self
    c.content_name.result c.in-Some.ensures.steps (c.content_name.ensures ∙ ap content_targets c.content.ensures)
    (sym c.if-is_some.false ∙ c.is_some.ensures) c.loop-item.invariant
