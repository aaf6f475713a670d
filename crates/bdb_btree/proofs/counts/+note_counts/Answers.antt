use Rattle.std.proofs.Common.{◌∙◌, rules}
use Rattle.bdb_ranks.specs.of_format.declared.rows.ContentsRow.TheVariants.{Count}
use Rattle.bdb_ranks.specs.of_format.Terms.{file_of, has_wrong_count, page_at}
use Rattle.bdb_ranks.specs.of_layout.Seen.{internal_item_seen}
use Rattle.bdb_btree.proofs.CountLemmas.{all_counted, all_passed, more_passed, none_passed}
use Rattle.bdb_btree.proofs.ItemLemmas.{leaf_noted}
use Rattle.bdb_btree.proofs.counts.+note_counts.Goals as goal

pub returns-in_default-clause-noted : goal.returns-in_default-clause-noted
returns-in_default-clause-noted g t c =
    leaf_noted (g.F.FaultSink.has_noted c.args.found.now) c.args.forest.now c.args.page Count
    (λ p. has_wrong_count (file_of c.args.forest.now) (page_at (file_of c.args.forest.now) p)) c.inner_view.ensures.forest
    (c.inner_view.ensures.leaf c.in_default.is)

pub loop-item-init : goal.loop-item-init
loop-item-init g t c =
    none_passed (g.F.FaultSink.has_noted c.args.found.now) c.args.forest.now c.args.page c.in-Some.view c.into_iter-item-iterator.result
    c.inner_view.ensures.forest c.requires c.in-Some.ensures.inner
    (c.into_iter-item-iterator.ensures.into_iter_gives ∙ c.items-item-items.ensures)

pub loop-item-preserved : goal.loop-item-preserved
loop-item-preserved g t c =
    more_passed (g.F.FaultSink.has_noted c.args.found.now) (g.F.FaultSink.has_noted c.loop-item.found) (g.F.FaultSink.has_noted c.note_counts.new.found)
    (file_of c.args.forest.now) c.args.page c.loop-item.counts c.in_ok-below.below c.add.new.self c.loop-item.wrong c.exclude-wrong.result
    (internal_item_seen c.in-Some-item.item) c.next.new.self c.loop-item.item-iterator c.in-Some-item.ensures.steps c.add.ensures
    c.exclude-wrong.ensures (search rules) c.loop-item.invariant c.in_ok-below.ensures.counts c.in_ok-below.ensures.noted

pub returns-clause-counts : goal.returns-clause-counts
returns-clause-counts g t c =
    all_counted (g.F.FaultSink.has_noted c.args.found.now) (g.F.FaultSink.has_noted c.loop-item.found) c.args.forest.now c.args.page
    c.loop-item.counts c.loop-item.wrong c.loop-item.item-iterator c.inner_view.ensures.forest c.in-None.ensures.steps.0 c.loop-item.invariant

pub returns-clause-noted : goal.returns-clause-noted
returns-clause-noted g t c =
    all_passed (g.F.FaultSink.has_noted c.args.found.now) (g.F.FaultSink.has_noted c.loop-item.found) (g.F.FaultSink.has_noted c.note_if.new.found)
    c.args.forest.now c.args.page c.loop-item.counts c.loop-item.wrong c.loop-item.item-iterator c.inner_view.ensures.forest
    c.in-None.ensures.steps.0 c.loop-item.invariant c.in_ok-note_if.ensures.noted
