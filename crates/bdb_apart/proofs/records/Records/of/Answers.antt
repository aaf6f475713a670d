use Rattle.std.proofs.Common.{ap, ◌∙◌}
use Rattle.bdb_rescue.specs.of_image.Metas.{meta_seen}
use Rattle.bdb_apart.specs.Kept.{found_seen}
use Rattle.bdb_apart.specs.Numbered.{numbered_seen}
use Rattle.bdb_apart.specs.Queues.{queue_in}
use Rattle.bdb_apart.proofs.GivenLemmas.{given_in_slots, given_on_leaves}
use Rattle.bdb_apart.proofs.KindLemmas.{queue_seen}
use Rattle.bdb_apart.proofs.records.Records.of.Goals as goal
use Rattle.bdb_apart.proofs.records.Records.of.Goals.{in-Queue, in_default}

pub over-requires : goal.over-requires
over-requires c = ap queue_in c.salvaged.ensures ∙ c.requires c.in-Queue.meta (ap meta_seen c.in-Queue.is)

pub returns : goal.returns
returns c = elim c.match-place.branch [
  | in-Queue w ↦
      ap numbered_seen w.records-is
      ∙ (w.over.ensures
      ∙ given_in_slots c.args.apart.now w.salvaged.result.now (found_seen c.args.place.now) w.in-Queue.meta (ap meta_seen w.in-Queue.is) w.salvaged.ensures)
  | in_default w ↦
      ap numbered_seen w.records-is
      ∙ (w.over-in_default.ensures
      ∙ given_on_leaves c.args.apart.now w.salvaged-in_default.result.now (found_seen c.args.place.now) w.holds_of.result w.row.result
      (λ meta is. w.in_default.not-Queue meta (queue_seen c.args.place.now.fields meta is)) w.salvaged-in_default.ensures w.holds_of.ensures w.row.ensures.row)
]
