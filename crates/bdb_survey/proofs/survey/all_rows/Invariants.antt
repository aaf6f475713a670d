use Rattle.std.specs.Prelude.{◌≡◌, map}
use Rattle.std.specs.List.{range_with_len}
use Rattle.bdb_survey.specs.Rows.{row_at}
use Rattle.bdb_survey.proofs.survey.all_rows.Given as goal

abbrev pub invariant-loop-page : goal.invariant-loop-page
invariant-loop-page g l = l.rows.items ≡ map (row_at l.pages) (range_with_len 0 l.page)
