use Rattle.std.proofs.Common.{◌+◌, ◌-◌, ◌*◌, refl, subst, sym, replicate, ◌/◌, ◌%◌}
use Rattle.bdb_need.specs.Counting.{ArePut}
use Rattle.bdb_need.proofs.OpenLemmas.{many_new, many_open}
use Rattle.bdb_need.proofs.open_page.OpenPage.put_many.Goals as goal

pub returns-then-count-here : goal.returns-then-count-here
returns-then-count-here c =
    many_open c.args.self.now.room c.args.self.now.closed c.args.self.now.left c.args.count c.args.cost c.requires.some c.if-count-here.true

pub returns : goal.returns
returns c =
    let page = c.args.self.now in
    let here = page.left / c.args.cost in
    let each = page.room / c.args.cost in
    let more = c.args.count - here - 1 in
    subst
    (λ n. ArePut page (record { room = page.room; closed = page.closed + n; left = page.room - (more % each + 1) * c.args.cost })
    (replicate c.args.count c.args.cost))
    (sym c.from.ensures)
    (many_new page.room page.closed page.left c.args.count c.args.cost here each more c.requires.some c.requires.fits refl refl refl
    c.if-count-here.false)
