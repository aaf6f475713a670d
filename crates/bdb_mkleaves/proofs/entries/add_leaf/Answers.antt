use Rattle.std.proofs.Common.{arith, refl}
use Rattle.bdb_mkleaves.proofs.Common.{with_zeros}
use Rattle.bdb_mkleaves.proofs.LeafLemmas.{leaf_added}
use Rattle.bdb_mkleaves.proofs.entries.add_leaf.Goals as goal

pub returns-clause-pages : goal.returns-clause-pages
returns-clause-pages c =
    (leaf_added c.args.leaf_type _ c.args.pages.now (with_zeros c.args.pages.now) c.add_begun.new.self c.in_ok-number.number c.args.previous
    c.number.ensures c.add_begun.ensures.legal c.in_ok-number.ensures.few (omega arith) refl c.in_ok-number.ensures.number c.in_ok-number.ensures.begun).0

pub returns-clause-holds : goal.returns-clause-holds
returns-clause-holds c =
    (leaf_added c.args.leaf_type _ c.args.pages.now (with_zeros c.args.pages.now) c.add_begun.new.self c.in_ok-number.number c.args.previous
    c.number.ensures c.add_begun.ensures.legal c.in_ok-number.ensures.few (omega arith) refl c.in_ok-number.ensures.number c.in_ok-number.ensures.begun).1

pub returns-clause-long : goal.returns-clause-long
returns-clause-long c =
    (leaf_added c.args.leaf_type _ c.args.pages.now (with_zeros c.args.pages.now) c.add_begun.new.self c.in_ok-number.number c.args.previous
    c.number.ensures c.add_begun.ensures.legal c.in_ok-number.ensures.few (omega arith) refl c.in_ok-number.ensures.number c.in_ok-number.ensures.begun).2
