use Rattle.std.proofs.Common.{ap, length, subst, ◌∙◌}
use Rattle.bdb_mkleaves.proofs.Common.{IsReady, EntryUnit, record_cost}
use Rattle.bdb_mkleaves.proofs.PushLemmas.{entry_pushed, some_pushed}
use Rattle.bdb_mkleaves.proofs.leaves.Leaves.push_entry.Goals as goal

pub returns-clause-pushed : goal.returns-clause-pushed
returns-clause-pushed c =
    entry_pushed c.args.self.now c.make_room.new.self c.args.pages.now c.make_room.new.pages c.put.new.pages c.args.value.now c.args.deleted
    c.requires.filled c.requires.leaf
    (subst (IsReady c.args.self.now c.make_room.new.self c.args.pages.now c.make_room.new.pages)
    (c.record_cost-cost.ensures.cost ∙ ap (λ n. record_cost n (length c.args.value.now)) c.size.ensures.size) c.in_ok-make_room.ensures)
    c.in_ok-put.ensures

pub returns-clause-filled : goal.returns-clause-filled
returns-clause-filled c =
    some_pushed c.args.self.now c.make_room.new.self c.args.pages.now c.put.new.pages (EntryUnit c.args.value.now c.args.deleted) c.requires.filled
    (returns-clause-pushed c)
