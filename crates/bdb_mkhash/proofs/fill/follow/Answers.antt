use Rattle.bdb_mkhash.proofs.FillLemmas.{begun_stays_on, is_followed}
use Rattle.bdb_mkhash.proofs.fill.follow.Goals as goal

pub set_next-requires-clause-begun : goal.set_next-requires-clause-begun
set_next-requires-clause-begun c = (begun_stays_on c.args.page c.args.pages.now c.add_page.new.pages c.requires.open c.in_ok-next.ensures.pages).begun

pub returns : goal.returns
returns c =
    is_followed c.args.page c.args.pages.now c.add_page.new.pages c.set_next.new.pages c.in_ok-next.next c.requires.open.there
    c.in_ok-next.ensures.pages
    c.in_ok-next.ensures.number c.in_ok-next.ensures.holds c.set_next.ensures.page c.set_next.ensures.holds
