use Rattle.std.proofs.Common.{refl, sym, ◌∙◌}
use Rattle.bdb_apart.specs.Kept.{holds_in, row_in}
use Rattle.bdb_apart.specs.Left.{pairs_on}
use Rattle.bdb_apart.specs.of_rescue.Kept.{file_in}
use Rattle.bdb_damage.proofs.StepLemmas.{joined_sum}
use Rattle.bdb_damage.proofs.TotalLemmas.{given_as_pairs, given_as_records, given_by_pairs}
use Rattle.bdb_damage.proofs.counts.given_count.Goals as goal

pub returns-then-has_records : goal.returns-then-has_records
returns-then-has_records c = c.given_records.ensures ∙ given_as_records c.args.database.now (sym c.has_records.ensures ∙ c.if-has_records.true)

pub returns-else-has_records : goal.returns-else-has_records
returns-else-has_records c =
    let it = c.args.database.now in
    c.tally_of.ensures
    ∙ (sym (joined_sum (pairs_on (file_in it.reading) (holds_in it.db)) (row_in it.reading it.db.meta))
    ∙ (given_by_pairs it (holds_in it.db) refl ∙ given_as_pairs it (sym c.has_records.ensures ∙ c.if-has_records.false)))
