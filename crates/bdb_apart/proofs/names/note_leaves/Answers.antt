use Rattle.bdb_rescue.specs.Kept.{file_in}
use Rattle.bdb_apart.proofs.NameLemmas.{page_noted}
use Rattle.bdb_apart.proofs.names.note_leaves.Goals as goal

pub loop-page-preserved : goal.loop-page-preserved
loop-page-preserved c =
    page_noted (file_in c.args.salvaged.now) c.args.names.now c.loop-page.names c.note_page.new.names c.loop-page.page c.loop-page.invariant c.note_page.ensures
