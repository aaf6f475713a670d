use Rattle.std.proofs.Common.{ap}
use Rattle.bdb_mkleaves.proofs.Common.{Numbered, OnRecno}
use Rattle.bdb_mkleaves.proofs.InnerLemmas.{child_held}
use Rattle.bdb_mkleaves.proofs.inner.append_count.Goals as goal

pub returns-clause-holds : goal.returns-clause-holds
returns-clause-holds c = λ level nodes node holds same.
    child_held Numbered c.args.pages.now c.append_recno.new.self c.args.page (OnRecno c.args.item.now) c.requires.page
    c.append_recno.ensures c.requires.takes level nodes node holds (ap (λ i. OnRecno i) same)
