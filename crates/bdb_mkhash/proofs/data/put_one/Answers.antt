use Rattle.std.proofs.Common.{[], ◌∙◌, sym, subst}
use Rattle.bdb_mkhash.proofs.Common.{values_seen, IsValuePut}
use Rattle.bdb_mkhash.proofs.CostLemmas.{first_is, one_long}
use Rattle.bdb_mkhash.proofs.StoreLemmas.{one_put}
use Rattle.bdb_mkhash.proofs.data.put_one.Goals as goal

pub returns : goal.returns
returns c =
    let one = one_long c.args.pages.now.size (values_seen c.args.values) (sym c.requires.form) in
    one_put c.args.page c.args.pages.now c.put_value.new.pages c.args.sorted (values_seen c.args.values) c.requires.open.there c.requires.form
    (subst (IsValuePut c.args.page c.args.pages.now c.put_value.new.pages)
    (c.at.ensures ∙ first_is (values_seen c.args.values) [] one) c.in_ok-put_value.ensures)
