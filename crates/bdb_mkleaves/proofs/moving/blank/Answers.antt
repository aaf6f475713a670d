use Rattle.bdb_mkleaves.proofs.MovedLemmas.{blanked}
use Rattle.bdb_mkleaves.proofs.moving.blank.Goals as goal

pub returns : goal.returns
returns c =
    blanked c.args.pages.now c.args.page _ c.fill.new.self c.requires.page c.requires.whole c.page_mut.ensures.value
    (c.fill.ensures.after (λ y same. same))
