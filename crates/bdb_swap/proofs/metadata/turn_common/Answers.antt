use Rattle.bdb_law_turned.specs.Fields.{fours}
use Rattle.bdb_swap.proofs.WriteLemmas.{turns_both}
use Rattle.bdb_swap.proofs.metadata.turn_common.Goals as goal

-- The numbers before the single bytes, and those behind them.
pub returns-clause-turns : goal.returns-clause-turns
returns-clause-turns c =
    turns_both c.args.source.now c.args.page.now c.turn_fours.new.page c.turn_fours-2.new.page (fours 0 6) (fours 28 6)
    c.turn_fours.ensures.turns c.turn_fours-2.ensures.turns
