use Rattle.std.proofs.Common.{◌≡◌, [], ◌∙◌, ap, subst, IfOk, fold}
use Rattle.bdb_mkfile.specs.Order.{with_named}
use Rattle.bdb_mkfile.proofs.NameLemmas.{sorted_is}
use Rattle.bdb_mkfile.proofs.order.in_name_order.Goals as goal

pub returns : goal.returns
returns c =
    let sorted : c.sort_names.new.sections.items ≡ fold with_named [] c.args.sections =
    sorted_is c.in_ok-all.all.items c.sort_names.new.sections.items c.in_ok-sort_names.ensures.sorted c.sort_names.ensures.stable
    ∙ ap (fold with_named []) c.in_ok-all.ensures in
    subst (λ l. IfOk c.put_back.result (λ all. all ≡ l)) sorted c.put_back.ensures
