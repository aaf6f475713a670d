use Rattle.std.proofs.Common.{◌+◌}
use Rattle.bdb_swap.proofs.PartLemmas.{turns_on}
use Rattle.bdb_swap.proofs.WriteLemmas.{turns_one}
use Rattle.bdb_swap.proofs.recno.turn_recno_item.Goals as goal

pub returns-clause-turns : goal.returns-clause-turns
returns-clause-turns c =
    (turns_on c.args.source.now c.args.page.now c.turn_four.new.page c.turn_four-2.new.page c.args.at 4 _ c.turn_four.ensures
    (turns_one c.args.source.now c.turn_four.new.page c.turn_four-2.new.page (c.args.at + 4) 4 c.turn_four-2.ensures))
