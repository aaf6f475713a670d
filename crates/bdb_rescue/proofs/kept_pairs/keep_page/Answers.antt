use Rattle.std.proofs.Common.{◌++◌, ◌∙◌, ap}
use Rattle.std.specs.List.{flat_map, range_with_len}
use Rattle.std.specs.Option.{option_to_list}
use Rattle.bdb_rescue.specs.Kept.{kept_pair}
use Rattle.bdb_survey.specs.Slots.{slots_seen}
use Rattle.bdb_rescue.proofs.ListLemmas.{more_pieces}
use Rattle.bdb_rescue.proofs.kept_pairs.keep_page.Goals as goal

-- One pair more.
pub loop-index-preserved : goal.loop-index-preserved
loop-index-preserved c =
    c.in_ok-push_some.ensures
    ∙ (ap (λ before. before ++ option_to_list c.kept_pair.result) c.loop-index.invariant
    ∙ (ap (λ found. (c.args.kept.now.items ++ flat_map (kept_pair c.args.survey.now c.args.page (slots_seen c.in-Some.slots))
    (range_with_len 0 c.loop-index.index)) ++ found) c.kept_pair.ensures
    ∙ more_pieces (kept_pair c.args.survey.now c.args.page (slots_seen c.in-Some.slots)) c.args.kept.now.items c.loop-index.index))
