use Rattle.std.proofs.Common.{sym, ◌∙◌}
use Rattle.bdb_apart.specs.Kept.{holds_in, row_in}
use Rattle.bdb_apart.specs.Left.{fit_on}
use Rattle.bdb_apart.specs.of_rescue.Kept.{file_in}
use Rattle.bdb_damage.proofs.StepLemmas.{joined_sum}
use Rattle.bdb_damage.proofs.TotalLemmas.{given_by_leaves, recno_of}
use Rattle.bdb_damage.proofs.counts.given_records.Goals as goal

pub given_in_slots-requires : goal.given_in_slots-requires
given_in_slots-requires c = sym c.holds.ensures.holds ∙ c.in-Slots.is

pub returns-in_default : goal.returns-in_default
returns-in_default c =
    let it = c.args.database.now in
    c.tally_of.ensures
    ∙ (sym (joined_sum (fit_on (file_in it.reading) (holds_in it.db)) (row_in it.reading it.db.meta))
    ∙ given_by_leaves it (recno_of it.db.fields c.requires (λ slots. c.in_default.not-Slots (c.holds.ensures.holds ∙ slots))))
