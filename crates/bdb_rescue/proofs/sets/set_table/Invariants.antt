use Rattle.bdb_rescue.specs.Kept.{IsTable, set_from}
use Rattle.bdb_rescue.proofs.sets.set_table.Given as goal

-- The sets that begin below a page, and the bounds up to it.
abbrev pub invariant-loop-page : goal.invariant-loop-page
invariant-loop-page l = IsTable (set_from l.survey) l.page l.sets.bounds.items l.sets.all.items
