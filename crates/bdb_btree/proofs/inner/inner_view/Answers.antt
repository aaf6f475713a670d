use Rattle.bdb_btree.proofs.ItemLemmas.{keyed_leaf}
use Rattle.bdb_btree.proofs.inner.inner_view.Goals as goal

-- A page that is no internal one is a leaf.
pub returns-in_default : goal.returns-in_default
returns-in_default c = record {
  inner = record {};
  leaf =
      λ none.
      keyed_leaf c.args.forest.now c.args.page c.page.result c.page.ensures.forest c.requires c.page.ensures.page c.in_default.not-Internal;
  forest = c.page.ensures.forest;
}
