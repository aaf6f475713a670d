use Rattle.bdb_rescue.specs.Kept.{IsTable, untaken_on}
use Rattle.bdb_rescue.proofs.kept_values.loose_values.Given as goal

-- What is kept of the pages below a page, and the bounds up to it.
abbrev pub invariant-loop-page : goal.invariant-loop-page
invariant-loop-page l = IsTable (untaken_on l.survey) l.page l.kept.bounds.items l.kept.all.items
