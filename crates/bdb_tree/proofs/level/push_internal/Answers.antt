use Rattle.std.proofs.Common.{ap, ◌∙◌, ◌++◌, map}
use Rattle.bdb_overflow.specs.of_layout.Seen.{internal_item_seen}
use Rattle.bdb_overflow.specs.of_format.Terms.{InternalItem}
use Rattle.bdb_tree.proofs.LevelLemmas.{children_more}
use Rattle.bdb_tree.proofs.level.push_internal.Goals as goal

-- The child of this item follows those of the items before it.
pub loop-item-preserved : goal.loop-item-preserved
loop-item-preserved c =
    ap (λ children. children ++ map (λ (item : InternalItem). item.child) c.next.new.self) c.in_ok-push.ensures.items
    ∙ children_more (λ (item : InternalItem). item.child) c.loop-item.next.items c.args.next.now.items (internal_item_seen c.in-Some.item) c.next.new.self
    c.loop-item.item-iterator c.args.page.now.items c.in-Some.ensures.steps c.loop-item.invariant
