use Rattle.std.proofs.Common.{refl, ◌∙◌}
use Rattle.bdb_settle.specs.Settling.{pair_on}
use Rattle.bdb_settle.proofs.KeyOrderLemmas.{by_data, by_greater, by_less}
use Rattle.bdb_settle.proofs.order.compare_places.Goals as goal

pub returns-in-Less : goal.returns-in-Less
returns-in-Less c = by_less c.args.settings.now (pair_on c.args.bytes.now c.args.a) (pair_on c.args.bytes.now c.args.b) c.in-Less.ensures

pub returns-in-Greater : goal.returns-in-Greater
returns-in-Greater c = by_greater c.args.settings.now (pair_on c.args.bytes.now c.args.a) (pair_on c.args.bytes.now c.args.b) c.in-Greater.ensures

pub returns-in-Equal : goal.returns-in-Equal
returns-in-Equal c =
    by_data c.args.settings.now (pair_on c.args.bytes.now c.args.a) (pair_on c.args.bytes.now c.args.b) c.compare_data.result c.in-Equal.ensures
    (c.compare_data.ensures ∙ rw (c.of.ensures, c.of-in-Equal.ensures) refl)
