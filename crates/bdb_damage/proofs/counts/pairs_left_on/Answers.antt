use Rattle.std.proofs.Common.{ap, length, sym, ◌∙◌}
use Rattle.bdb_apart.specs.of_rescue.Kept.{Reading, file_in}
use Rattle.bdb_apart.specs.of_survey.Salvage.{stored_on}
use Rattle.bdb_apart.specs.Found.{found}
use Rattle.bdb_damage.proofs.TotalLemmas.{left_all}
use Rattle.bdb_damage.proofs.counts.pairs_left_on.Goals as goal

pub returns : goal.returns
returns c =
    c.pairs_on.ensures.count
    ∙ (ap (λ (r : Reading). length (stored_on (file_in r) c.args.page)) c.salvaged.ensures
    ∙ left_all (file_in c.args.apart.now) (found c.args.apart.now) c.args.page (sym c.are_given.ensures ∙ c.if-are_given.false)
    (sym c.is_master_leaf.ensures ∙ c.if-is_master_leaf.false))
