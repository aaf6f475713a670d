use Rattle.bdb_recno.proofs.PageLemmas.{no_other_view}
use Rattle.bdb_recno.proofs.page.recno_page.Goals as goal

-- A page of records is of one of the two types.
pub unreachable-requires : goal.unreachable-requires
unreachable-requires c =
    no_other_view c.args.forest.now c.args.page c.page.result c.requires.forest c.requires.page c.page.ensures.page c.in_default.not-RecnoInternal
    c.in_default.not-RecnoLeaf
