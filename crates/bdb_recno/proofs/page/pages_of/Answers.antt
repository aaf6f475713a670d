use Rattle.bdb_recno.proofs.PageLemmas.{root_recno}
use Rattle.bdb_recno.proofs.page.pages_of.Goals as goal

pub returns-clause-root : goal.returns-clause-root
returns-clause-root c = rw c.root.ensures.number at c.root.ensures.fits

pub returns-clause-recno : goal.returns-clause-recno
returns-clause-recno c = root_recno c.args.linked.now c.args.meta.now c.root.ensures.forest c.requires.meta c.requires.recno
