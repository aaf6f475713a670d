use Rattle.bdb_mkfile.proofs.StandingLemmas.{added_more}
use Rattle.bdb_mkfile.proofs.databases.add_zeros.Goals as goal

pub loop-page-preserved : goal.loop-page-preserved
loop-page-preserved c = added_more c.args.pages.now c.loop-page.pages c.add.new.self c.loop-page._page c.loop-page.invariant c.in_ok-add.ensures.ok
