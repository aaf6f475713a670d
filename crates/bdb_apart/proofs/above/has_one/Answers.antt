use Rattle.std.proofs.Common.{ap, ◌∙◌}
use Rattle.bdb_rescue.specs.of_format.Terms.{page_at}
use Rattle.bdb_apart.specs.Found.{is_alone}
use Rattle.bdb_apart.specs.Kept.{alone_in}
use Rattle.bdb_apart.proofs.FoundLemmas.{alone_is}
use Rattle.bdb_apart.proofs.above.has_one.Goals as goal

pub returns : goal.returns
returns c =
    c.is_alone.ensures
    ∙ (ap alone_in c.meta.ensures.meta ∙ (alone_is (page_at c.pages.result 0) ∙ ap (λ file. is_alone (page_at file 0)) c.pages.ensures))
