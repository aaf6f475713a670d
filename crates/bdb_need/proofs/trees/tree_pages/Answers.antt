use Rattle.std.proofs.Common.{◌≡◌, subst, sym, IfOk}
use Rattle.bdb_need.proofs.Common.{IsTreeList, unlined_pairs, tree_pages}
use Rattle.bdb_need.proofs.SectionLemmas.{filled_before}
use Rattle.bdb_need.proofs.trees.tree_pages.Goals as goal

-- The records have their length already.
pub filled_tree_pages-requires-clause-list : goal.filled_tree_pages-requires-clause-list
filled_tree_pages-requires-clause-list c =
    let settings = c.args.settings.now in
    subst (λ ps. IsTreeList settings (unlined_pairs ps)) (sym (filled_before settings c.args.list.now c.requires.kind c.requires.list)) c.requires.list

pub returns-clause-pages : goal.returns-clause-pages
returns-clause-pages c =
    let settings = c.args.settings.now in
    subst (λ ps. IfOk c.filled_tree_pages.result (λ pages. pages ≡ tree_pages settings (unlined_pairs ps)))
    (filled_before settings c.args.list.now c.requires.kind c.requires.list) c.filled_tree_pages.ensures.pages
