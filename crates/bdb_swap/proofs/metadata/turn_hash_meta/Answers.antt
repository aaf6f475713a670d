use Rattle.std.proofs.Common.{◌++◌}
use Rattle.bdb_law_turned.specs.Fields.{common_fields, fours}
use Rattle.bdb_swap.proofs.WriteLemmas.{turns_both}
use Rattle.bdb_swap.proofs.metadata.turn_hash_meta.Goals as goal

-- What all metadata has, and then what a table adds.
pub returns : goal.returns
returns c =
    turns_both c.args.source.now c.args.page.now c.turn_common.new.page c.turn_fours-2.new.page common_fields (fours 72 6 ++ fours 96 32)
    c.turn_common.ensures.turns
    (turns_both c.args.source.now c.turn_common.new.page c.turn_fours.new.page c.turn_fours-2.new.page (fours 72 6) (fours 96 32)
    c.turn_fours.ensures.turns c.turn_fours-2.ensures.turns)
