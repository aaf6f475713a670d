use Rattle.std.proofs.Common.{◌++◌, ◌∙◌, ap}
use Rattle.bdb_rescue.specs.Kept.{kept_value}
use Rattle.bdb_survey.specs.Slots.{slots_seen}
use Rattle.bdb_rescue.proofs.ListLemmas.{more_pieces}
use Rattle.bdb_rescue.proofs.kept_values.keep_among.Goals as goal

-- One value more.
pub loop-index-preserved : goal.loop-index-preserved
loop-index-preserved c =
    c.in_ok-push_some.ensures
    ∙ (ap (λ before. before ++ Rattle.std.specs.Option.option_to_list c.kept_value.result) c.loop-index.invariant
    ∙ (ap (λ found. (c.args.kept.now.items ++ Rattle.std.specs.List.flat_map (kept_value c.args.survey.now c.args.page (slots_seen c.args.slots.now))
    (Rattle.std.specs.List.range_with_len 0 c.loop-index.index)) ++ found) c.kept_value.ensures
    ∙ more_pieces (kept_value c.args.survey.now c.args.page (slots_seen c.args.slots.now)) c.args.kept.now.items c.loop-index.index))
