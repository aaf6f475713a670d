use Rattle.std.proofs.Common.{ap}
use Rattle.bdb_law_turned.specs.of_format.declared.pages.Header.{Header}
use Rattle.bdb_law_turned.specs.of_format.Terms.{file_of}
use Rattle.bdb_stat.proofs.ClassLemmas.{level_is, of_tree, tree_inside}
use Rattle.bdb_stat.proofs.counting.tree_level.Goals as goal

pub page-requires : goal.page-requires
page-requires c = tree_inside (file_of c.args.linked.now) c.args.number c.args.class c.requires (ap of_tree c.in-Internal.is)

pub returns-in-Internal : goal.returns-in-Internal
returns-in-Internal c =
    level_is (file_of c.args.linked.now) c.args.number c.args.class c.page.result _ c.requires (ap of_tree c.in-Internal.is) c.page.ensures.page
    (ap (λ (h : Header). h.level) c.header.ensures)

pub page-requires-in-Leaf : goal.page-requires-in-Leaf
page-requires-in-Leaf c = tree_inside (file_of c.args.linked.now) c.args.number c.args.class c.requires (ap of_tree c.in-Leaf.is)

pub returns-in-Leaf : goal.returns-in-Leaf
returns-in-Leaf c =
    level_is (file_of c.args.linked.now) c.args.number c.args.class c.page-in-Leaf.result _ c.requires (ap of_tree c.in-Leaf.is) c.page-in-Leaf.ensures.page
    (ap (λ (h : Header). h.level) c.header-in-Leaf.ensures)
