use Rattle.std.proofs.Common.{◌∙◌, ◌<◌, arith, rules, subst, sym, Contains}
use Rattle.bdb_tree.specs.of_format.Terms.{File, file_of}
use Rattle.bdb_tree.proofs.of_format.MemberLemmas.{first_member}
use Rattle.bdb_recno.specs.Pages.{IsRecnoPage}
use Rattle.bdb_recno.proofs.CountLemmas.{IsBelow, all_counted, all_passed, leaf_counted, leaf_noted, level, more_passed, none_passed}
use Rattle.bdb_recno.proofs.counts.+note_counts.Goals as goal

pub returns-in-Leaf-clause-entries : goal.returns-in-Leaf-clause-entries
returns-in-Leaf-clause-entries g t c =
    leaf_counted c.args.forest.now c.args.page c.from.result c.in-Leaf.view c.requires.forest c.in-Leaf.ensures
    (omega (arith, c.from.ensures, c.entries.type_inv)) (c.from.ensures ∙ c.entries.ensures)

pub returns-in-Leaf-clause-noted : goal.returns-in-Leaf-clause-noted
returns-in-Leaf-clause-noted g t c =
    leaf_noted (g.F.FaultSink.has_noted c.args.found.now) (file_of c.args.forest.now) c.args.page c.in-Leaf.view c.in-Leaf.ensures

pub loop-item-init : goal.loop-item-init
loop-item-init g t c =
    none_passed (g.F.FaultSink.has_noted c.args.found.now) c.args.forest.now c.args.page c.in-Internal.view c.into_iter-item-iterator.result
    c.requires.forest c.in-Internal.ensures (c.into_iter-item-iterator.ensures.into_iter_gives ∙ c.items-item-items.ensures)

-- The child of this item is a page of records one level below.
pub note_counts-requires : goal.note_counts-requires
note_counts-requires g t c =
    let file : File = file_of c.args.forest.now in
    let member : Contains c.loop-item.item-iterator c.in-Some.item =
    subst (λ items. Contains items c.in-Some.item) (sym c.in-Some.ensures.steps) (first_member c.in-Some.item c.next.new.self) in
    let below : IsBelow file c.args.page c.in-Some.item = c.loop-item.invariant.below c.in-Some.item member in
    let recno : IsRecnoPage file c.in-Some.item.child = below.0 in
    let smaller : level file c.in-Some.item.child < level file c.args.page = omega (arith, below.1) in
    search rules

pub loop-item-preserved : goal.loop-item-preserved
loop-item-preserved g t c =
    more_passed (g.F.FaultSink.has_noted c.args.found.now) (g.F.FaultSink.has_noted c.loop-item.found) (g.F.FaultSink.has_noted c.note_counts.new.found)
    (file_of c.args.forest.now) c.args.page c.loop-item.entries c.in_ok-below.below c.saturating_add-entries.result c.from-in-loop-item.result
    c.loop-item.wrong c.in-Some.item c.next.new.self c.loop-item.item-iterator c.in-Some.ensures.steps (omega (arith, c.saturating_add-entries.ensures))
    c.from-in-loop-item.ensures (search rules) c.loop-item.invariant c.in_ok-below.ensures.entries c.in_ok-below.ensures.noted

pub returns-clause-entries : goal.returns-clause-entries
returns-clause-entries g t c =
    all_counted (g.F.FaultSink.has_noted c.args.found.now) (g.F.FaultSink.has_noted c.loop-item.found) c.args.forest.now c.args.page
    c.loop-item.entries c.loop-item.wrong c.loop-item.item-iterator c.requires.forest c.in-None.ensures.steps.0 c.loop-item.invariant

pub returns-clause-noted : goal.returns-clause-noted
returns-clause-noted g t c =
    all_passed (g.F.FaultSink.has_noted c.args.found.now) (g.F.FaultSink.has_noted c.loop-item.found) (g.F.FaultSink.has_noted c.note_if.new.found)
    c.args.forest.now c.args.page c.loop-item.entries c.loop-item.wrong c.loop-item.item-iterator c.requires.forest c.in-None.ensures.steps.0
    c.loop-item.invariant c.in_ok-note_if.ensures.noted
