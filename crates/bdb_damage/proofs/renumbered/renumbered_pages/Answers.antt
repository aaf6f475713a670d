use Rattle.std.proofs.Common.{ap, ◌∙◌}
use Rattle.bdb_damage.specs.Walks.{renumbered_from}
use Rattle.bdb_damage.proofs.WalkLemmas.{all_renumbered}
use Rattle.bdb_damage.proofs.renumbered.renumbered_pages.Goals as goal

pub returns : goal.returns
returns c =
    ap (λ r. renumbered_from r c.of.result.page) (c.of.ensures.salvaged ∙ c.salvaged.ensures)
    ∙ (ap (renumbered_from c.args.apart.now) c.of.ensures.page ∙ all_renumbered c.args.apart.now)
