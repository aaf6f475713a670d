use Rattle.std.proofs.Common.{sym, ◌∙◌}
use Rattle.bdb_damage.proofs.TotalLemmas.{lost_by_pairs, lost_by_records, queue_lost, recno_of}
use Rattle.bdb_damage.proofs.counts.lost_count.Goals as goal

pub returns-then-not-has_records : goal.returns-then-not-has_records
returns-then-not-has_records c =
    lost_by_pairs c.args.database.now c.tally_of.result c.tally_of.ensures (sym c.has_records.ensures ∙ c.if-not-has_records.true)

pub returns-in-Slots : goal.returns-in-Slots
returns-in-Slots c = queue_lost c.args.database.now (sym c.holds.ensures.holds ∙ c.in-Slots.is)

pub returns-in_default : goal.returns-in_default
returns-in_default c =
    lost_by_records c.args.database.now c.tally_of-in_default.result c.tally_of-in_default.ensures
    (recno_of c.args.database.now.db.fields (sym c.has_records.ensures ∙ c.if-not-has_records.false)
    (λ slots. c.in_default.not-Slots (c.holds.ensures.holds ∙ slots)))
