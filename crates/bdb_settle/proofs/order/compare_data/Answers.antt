use Rattle.std.proofs.Common.{refl, sym, ◌∙◌}
use Rattle.bdb_settle.proofs.KeyOrderLemmas.{by_shown}
use Rattle.bdb_settle.proofs.order.compare_data.Goals as goal

pub returns-then-sorts_data : goal.returns-then-sorts_data
returns-then-sorts_data c =
    by_shown c.args.settings.now c.args.a.now c.args.b.now c.args.a.now c.args.b.now c.compare.result (sym c.sorts_data.ensures ∙ c.if-sorts_data.true) refl
    refl
    c.compare.ensures
