use Rattle.bdb_rescue.specs.Kept.{file_in}
use Rattle.bdb_apart.specs.Given.{above}
use Rattle.bdb_apart.proofs.FoundLemmas.{above_more}
use Rattle.bdb_apart.proofs.above.aboves.Goals as goal

pub loop-page-preserved : goal.loop-page-preserved
loop-page-preserved c =
    above_more (above (file_in c.args.salvaged.now)) c.loop-page.aboves.items c.push.new.self.items c.loop-page.page c.above.result c.loop-page.invariant
    c.above.ensures c.in_ok-push.ensures.items
