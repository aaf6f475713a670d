use Rattle.bdb_law_turned.specs.Fields.{common_fields, fours}
use Rattle.bdb_swap.proofs.WriteLemmas.{turns_both}
use Rattle.bdb_swap.proofs.metadata.turn_meta.Goals as goal

-- What all metadata has, and then what the kind adds.
pub returns : goal.returns
returns c =
    turns_both c.args.source.now c.args.page.now c.turn_common.new.page c.turn_fours.new.page common_fields (fours c.args.at c.args.count)
    c.turn_common.ensures.turns c.turn_fours.ensures.turns
