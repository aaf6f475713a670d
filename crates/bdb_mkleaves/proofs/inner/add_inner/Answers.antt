use Rattle.std.proofs.Common.{refl}
use Rattle.bdb_mkleaves.proofs.Common.{with_zeros}
use Rattle.bdb_mkleaves.proofs.InnerLemmas.{inner_added}
use Rattle.bdb_mkleaves.proofs.inner.add_inner.Goals as goal

pub returns-clause-pages : goal.returns-clause-pages
returns-clause-pages c =
    (inner_added c.args.inner _ c.args.pages.now (with_zeros c.args.pages.now) c.add_begun.new.self c.in_ok-number.number c.args.level c.type_of.ensures
    c.requires.legal c.in_ok-number.ensures.few refl c.in_ok-number.ensures.number c.in_ok-number.ensures.begun).0

pub returns-clause-holds : goal.returns-clause-holds
returns-clause-holds c =
    (inner_added c.args.inner _ c.args.pages.now (with_zeros c.args.pages.now) c.add_begun.new.self c.in_ok-number.number c.args.level c.type_of.ensures
    c.requires.legal c.in_ok-number.ensures.few refl c.in_ok-number.ensures.number c.in_ok-number.ensures.begun).1
