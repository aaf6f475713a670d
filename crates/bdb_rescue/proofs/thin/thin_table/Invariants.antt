use Rattle.bdb_rescue.specs.Kept.{IsTable, thin_from}
use Rattle.bdb_rescue.proofs.thin.thin_table.Given as goal

-- The bytes of chains that begin below a page, and the bounds up to it.
abbrev pub invariant-loop-page : goal.invariant-loop-page
invariant-loop-page l = IsTable (thin_from l.survey) l.page l.thin.bounds.items l.thin.all.items
