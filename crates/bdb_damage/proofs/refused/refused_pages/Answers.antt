use Rattle.std.proofs.Common.{ap, ◌∙◌}
use Rattle.bdb_damage.specs.Walks.{refused_from}
use Rattle.bdb_damage.proofs.WalkLemmas.{all_refused}
use Rattle.bdb_damage.proofs.refused.refused_pages.Goals as goal

pub returns : goal.returns
returns c =
    ap (λ r. refused_from r c.of.result.page) (c.of.ensures.salvaged ∙ c.salvaged.ensures)
    ∙ (ap (refused_from c.args.apart.now) c.of.ensures.page ∙ all_refused c.args.apart.now)
