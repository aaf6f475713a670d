use Rattle.std.proofs.Common.{◌≡◌, arith, subst, sym}
use Rattle.bdb_homes.proofs.ClaimLemmas.{claims_below, claims_more, ups_all}
use Rattle.bdb_homes.specs.Ups.{AreUps}
use Rattle.bdb_homes.proofs.claims.note_pages.Goals as goal

pub loop-page-preserved : goal.loop-page-preserved
loop-page-preserved g c = record {
  ups = subst (AreUps c.args.pages.now c.note_page.new.ups) (sym (claims_more c.args.pages.now c.loop-page.page))
      (c.note_page.ensures.ups (claims_below c.args.pages.now c.loop-page.page) c.loop-page.invariant.ups);
  has = c.note_page.ensures.leaps;
  cost = omega (arith, c.note_page.ensures.cost, c.loop-page.invariant.cost);
}

pub returns-clause-ups : goal.returns-clause-ups
returns-clause-ups g c =
    let all : c.loop-page.page ≡ c.args.pages.now.count = omega (arith, c.loop-page-test.false, c.loop-page.auto.page-end, c.count-page-end.ensures.count) in
    ups_all c.args.pages.now c.args.faces.now c.loop-page.ups c.requires.faces (sym c.loop-page.invariant.has.same)
    (subst (λ n. AreUps c.args.pages.now c.loop-page.ups (claims_below c.args.pages.now n)) all c.loop-page.invariant.ups)
