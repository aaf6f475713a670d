use Rattle.std.proofs.Common.{◌+◌, ap, arith, refl, subst, sym}
use Rattle.bdb_mkhash.proofs.Common.{no_unit, IsShortUnit, units_seen}
use Rattle.bdb_mkhash.proofs.FillLemmas.{none_put, page_whole, put_next, seen_any, seen_long}
use Rattle.bdb_mkhash.proofs.fill.fill_page.Goals as goal

pub loop-unit-init : goal.loop-unit-init
loop-unit-init c = (refl, none_put c.args.page c.args.pages.now c.args.sorted c.size-size.ensures.whole c.requires.empty)

pub keyed_cost-requires-clause-some : goal.keyed_cost-requires-clause-some
keyed_cost-requires-clause-some c =
    (subst IsShortUnit (sym (seen_any c.args.units.now c.loop-unit.unit-index _ c.loop-unit-test.true))
    (c.requires.short c.loop-unit.unit-index no_unit (omega (arith, seen_long c.args.units.now, c.loop-unit-test.true)))).some

pub room-requires-clause-begun : goal.room-requires-clause-begun
room-requires-clause-begun c = (page_whole c.args.page c.args.pages.now c.loop-unit.pages c.args.sorted _ c.requires.empty c.loop-unit.invariant.1).holds.begun

pub put_unit-requires-clause-open : goal.put_unit-requires-clause-open
put_unit-requires-clause-open c = page_whole c.args.page c.args.pages.now c.loop-unit.pages c.args.sorted _ c.requires.empty c.loop-unit.invariant.1

pub put_unit-requires-clause-short : goal.put_unit-requires-clause-short
put_unit-requires-clause-short c =
    subst IsShortUnit (sym (seen_any c.args.units.now c.loop-unit.unit-index _ c.loop-unit-test.true))
    (c.requires.short c.loop-unit.unit-index no_unit (omega (arith, seen_long c.args.units.now, c.loop-unit-test.true)))

pub loop-unit-preserved : goal.loop-unit-preserved
loop-unit-preserved c = (
  ap (λ n. n + 1) c.loop-unit.invariant.0,
  put_next c.args.page c.args.pages.now c.loop-unit.pages c.put_unit.new.pages c.args.sorted (units_seen c.args.units.now) c.loop-unit.unit-index
      _ c.requires.empty c.loop-unit.invariant.1 (omega (arith, seen_long c.args.units.now, c.loop-unit-test.true))
      (seen_any c.args.units.now c.loop-unit.unit-index _ c.loop-unit-test.true) c.in_ok-put_unit.ensures,
)
