use Rattle.std.proofs.Common.{◌∙◌, ap}
use Rattle.bdb_mkfile.proofs.Common.{less, name_of}
use Rattle.bdb_mkfile.proofs.order.compare_names.Goals as goal
use Rattle.bdb_need.proofs.of_layout.KeyLemmas.{by_bytes}

pub returns : goal.returns
returns c =
    by_bytes c.compare.result c.name_of.result.now c.name_of-2.result.now c.compare.ensures
    ∙ (ap (λ n. less n c.name_of-2.result.now) c.name_of.ensures ∙ ap (less (name_of c.args.a.now)) c.name_of-2.ensures)
