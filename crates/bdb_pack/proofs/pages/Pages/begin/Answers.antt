use Rattle.bdb_pack.specs.Placing.{begun_page}
use Rattle.bdb_pack.proofs.OpenLemmas.{edited, page_bounds}
use Rattle.bdb_pack.proofs.pages.Pages.begin.Goals as goal

pub returns : goal.returns
returns c =
    let it = c.self.inside in
    edited it.size it.count it.order it.bytes.items c.args.self.now c.args.number (λ order page. begun_page order page c.args.header.now) _ _
    c.self.view_is c.self.invariant.whole c.requires.number c.page_mut-page.ensures.value c.put_begun.ensures c.put_begun.auto.page

pub put_begun-requires-clause-page : goal.put_begun-requires-clause-page
put_begun-requires-clause-page c =
    let it = c.self.inside in
    (page_bounds it.size it.count it.order it.bytes.items c.args.self.now c.args.number _ c.self.view_is
    c.self.invariant.whole c.self.invariant.legal c.requires.number c.page_mut-page.ensures.value).0

pub put_begun-requires-clause-short : goal.put_begun-requires-clause-short
put_begun-requires-clause-short c =
    let it = c.self.inside in
    (page_bounds it.size it.count it.order it.bytes.items c.args.self.now c.args.number _ c.self.view_is
    c.self.invariant.whole c.self.invariant.legal c.requires.number c.page_mut-page.ensures.value).1
