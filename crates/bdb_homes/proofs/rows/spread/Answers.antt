use Rattle.std.proofs.Common.{◌+◌, ◌<◌, ◌≤◌, ◌∙◌, arith, length}
use Rattle.bdb_homes.proofs.WalkLemmas.{all_spread, next_other, none_spread}
use Rattle.bdb_homes.specs.Spreading.{home_at}
use Rattle.bdb_homes.proofs.rows.spread.Goals as goal

pub loop-page-init : goal.loop-page-init
loop-page-init c = record { all = λ file are. none_spread c.args.faces.now c.args.homes.now c.args.from file are c.requires.len; len = c.requires.len }

pub loop-page-preserved : goal.loop-page-preserved
loop-page-preserved c = record {
  all = λ file are.
      next_other (home_at c.args.homes.now) c.args.from file c.spread_from.new.homes (λ p. c.loop-page.page < p) (λ p. c.loop-page.page + 1 ≤ p)
      (λ p later. omega (arith, later))
      (c.spread_from.ensures file (home_at c.args.homes.now) are (c.loop-page.invariant.all file are));
  len = c.spread_from.auto.homes ∙ c.loop-page.invariant.len;
}

pub returns : goal.returns
returns c = λ file p are low.
    all_spread c.args.faces.now c.args.homes.now c.loop-page.homes c.args.from file are
    (next_other (home_at c.args.homes.now) c.args.from file c.loop-page.homes (λ q. c.loop-page.page ≤ q) (λ q. length c.args.faces.now ≤ q)
    (λ q later. omega (arith, c.loop-page-test.false, later)) (c.loop-page.invariant.all file are)) p low
