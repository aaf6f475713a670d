use Rattle.bdb_slots.proofs.PlainLemmas.{AllInline}
use Rattle.bdb_image.proofs.plain.holds_none.Given as goal

-- Where none of the items that are left names a page, none of the page does.
abbrev pub invariant-loop-item : goal.invariant-loop-item
invariant-loop-item g l = AllInline g.K.ContentKind.content_of l.item-iterator → AllInline g.K.ContentKind.content_of l.page.items
