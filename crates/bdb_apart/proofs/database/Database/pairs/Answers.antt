use Rattle.std.proofs.Common.{ap, ◌∙◌}
use Rattle.bdb_apart.specs.Given.{pairs_given}
use Rattle.bdb_apart.specs.Kept.{found_seen}
use Rattle.bdb_apart.proofs.GivenLemmas.{given_pairs}
use Rattle.bdb_apart.proofs.database.Database.pairs.Goals as goal

pub returns : goal.returns
returns c =
    c.over.ensures
    ∙ (given_pairs c.self.inside.apart.now c.salvaged.result.now (found_seen c.self.inside.place.now) c.holds_of.result c.row.result
    c.salvaged.ensures c.holds_of.ensures c.row.ensures.row
    ∙ ap pairs_given c.self.view_is)
