use Rattle.std.proofs.Common.{◌≡◌, arith, length}
use Rattle.bdb_rescue.proofs.TableLemmas.{page_ended}
use Rattle.bdb_rescue.proofs.tables.Table.end_page.Goals as goal

-- All of the page stands behind what was there, and the bound is how much that is.
pub returns : goal.returns
returns g c = λ from page before table more.
    let many : c.len.result ≡ length c.args.self.now.all.items = omega (arith, c.len.ensures) in
    page_ended from page c.args.self.now.bounds.items c.push.new.self.items before c.args.self.now.all.items c.len.result table more many
    c.in_ok-push.ensures.items
