use Rattle.std.proofs.Common.{◌≡◌, subst, IfOk}
use Rattle.bdb_need.proofs.FilledLemmas.{need_before, settled_filled}
use Rattle.bdb_need.proofs.sections.need.Goals as goal

-- The records are filled up already, but for those of a queue, whose length isn't counted.
pub filled_need-requires : goal.filled_need-requires
filled_need-requires c = settled_filled c.args.sections.now c.requires

pub returns : goal.returns
returns c = subst (λ n. IfOk c.filled_need.result (λ pages. pages ≡ n)) (need_before c.args.sections.now c.requires) c.filled_need.ensures
