use Rattle.std.specs.Prelude.{◌≡◌, ◌++◌}
use Rattle.std.specs.List.{flat_map, range_with_len}
use Rattle.bdb_rescue.specs.Kept.{kept_pair}
use Rattle.bdb_survey.specs.Slots.{slots_seen}
use Rattle.bdb_rescue.proofs.kept_pairs.keep_page.Given as goal

abbrev pub invariant-loop-index : goal.invariant-loop-index
invariant-loop-index l = l.kept.items ≡ l.fn.kept.items ++ flat_map (kept_pair l.survey l.page (slots_seen l.slots)) (range_with_len 0 l.index)
