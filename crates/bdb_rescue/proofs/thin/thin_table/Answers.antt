use Rattle.std.proofs.Common.{◌++◌, ◌∙◌, ap}
use Rattle.bdb_text_format.specs.of_format.Terms.{File}
use Rattle.bdb_rescue.specs.Kept.{bytes_in, thin_from}
use Rattle.bdb_rescue.proofs.thin.thin_table.Goals as goal

-- One page more.
pub loop-page-preserved : goal.loop-page-preserved
loop-page-preserved c =
    let file : File = c.args.survey.now in
    c.in_ok-end_page.ensures (thin_from file) c.loop-page.page c.loop-page.thin.all.items c.loop-page.invariant
    (c.in_ok-push_thin.ensures ∙ ap (λ pieces. c.loop-page.thin.all.items ++ bytes_in pieces) c.thin_pieces.ensures)
