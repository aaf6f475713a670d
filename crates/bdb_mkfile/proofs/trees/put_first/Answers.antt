use Rattle.std.proofs.Common.{arith}
use Rattle.bdb_mkfile.proofs.TreeLemmas.{first_written}
use Rattle.bdb_mkfile.proofs.trees.put_first.Goals as goal

pub returns-clause-page : goal.returns-clause-page
returns-clause-page c =
    first_written c.args.pages.now c.page_mut.result.now c.put_btree_meta.new.page c.order-order.result _ c.args.meta.now c.requires.some
    c.order-order.ensures.whole
    c.order-order.ensures.legal
    c.order-order.ensures.order (omega (arith, c.count-last.ensures.count)) c.page_mut.ensures.value c.put_btree_meta.ensures.page
