use Rattle.std.proofs.Common.{ap}
use Rattle.bdb_mkleaves.proofs.Common.{internal_item_seen, Keyed, OnInternal}
use Rattle.bdb_mkleaves.proofs.InnerLemmas.{child_held}
use Rattle.bdb_mkleaves.proofs.inner.append_child.Goals as goal

pub returns-clause-holds : goal.returns-clause-holds
returns-clause-holds c = λ level nodes node holds same.
    child_held Keyed c.args.pages.now c.append_internal.new.self c.args.page (OnInternal (internal_item_seen c.args.item.now)) c.requires.page
    c.append_internal.ensures c.requires.takes level nodes node holds (ap (λ i. OnInternal i) same)
