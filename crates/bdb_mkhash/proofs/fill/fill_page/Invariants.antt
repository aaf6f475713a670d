use Rattle.std.proofs.Common.{◌≡◌, take}
use Rattle.bdb_mkhash.proofs.Common.{ArePut, units_seen}
use Rattle.bdb_mkhash.proofs.fill.fill_page.Given as goal

-- The units passed are on the page.
abbrev pub invariant-loop-unit : goal.invariant-loop-unit
invariant-loop-unit l = (l.n ≡ l.unit-index) × ArePut l.page l.fn.pages l.pages l.sorted (take l.unit-index (units_seen l.units))
