use Rattle.std.proofs.Common.{arith, refl}
use Rattle.bdb_mkhash.proofs.Common.{with_zeros}
use Rattle.bdb_mkhash.proofs.PageLemmas.{page_added}
use Rattle.bdb_mkhash.proofs.page.add_page.Goals as goal

pub returns-clause-pages : goal.returns-clause-pages
returns-clause-pages c =
    (page_added c.args.pages.now (with_zeros c.args.pages.now) c.add_begun.new.self c.in_ok-number.number c.args.previous c.requires.legal
    c.in_ok-number.ensures.few (omega arith) refl c.in_ok-number.ensures.number c.in_ok-number.ensures.begun).0

pub returns-clause-holds : goal.returns-clause-holds
returns-clause-holds c =
    (page_added c.args.pages.now (with_zeros c.args.pages.now) c.add_begun.new.self c.in_ok-number.number c.args.previous c.requires.legal
    c.in_ok-number.ensures.few (omega arith) refl c.in_ok-number.ensures.number c.in_ok-number.ensures.begun).1
