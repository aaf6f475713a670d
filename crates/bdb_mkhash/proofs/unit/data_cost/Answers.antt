use Rattle.std.proofs.Common.{sym, ◌∙◌}
use Rattle.bdb_mktree.specs.of_places.Places.{values_seen}
use Rattle.bdb_mkhash.proofs.CostLemmas.{set_form, tree_form}
use Rattle.bdb_mkhash.proofs.unit.data_cost.Goals as goal

pub returns-in-Some : goal.returns-in-Some
returns-in-Some c =
    (set_form c.args.size (values_seen c.args.values) _ c.requires.some (λ one. c.if-len-eq1.false (c.len.ensures ∙ one))
    (sym c.in-Some.is ∙ c.set_or_none.ensures)).1

pub returns-in-None : goal.returns-in-None
returns-in-None c =
    (tree_form c.args.size (values_seen c.args.values) c.requires.some (λ one. c.if-len-eq1.false (c.len.ensures ∙ one))
    (sym c.in-None.is ∙ c.set_or_none.ensures)).1
