use Rattle.bdb_swap.proofs.PartLemmas.{turns_on}
use Rattle.bdb_swap.proofs.WriteLemmas.{turns_one}
use Rattle.bdb_swap.proofs.header.turn_header.Goals as goal

-- One number after another.
pub returns-clause-turns : goal.returns-clause-turns
returns-clause-turns c =
    turns_on c.args.source.now c.args.page.now c.turn_four.new.page c.turn_two-2.new.page 0 4 _ c.turn_four.ensures
    (turns_on c.args.source.now c.turn_four.new.page c.turn_four-2.new.page c.turn_two-2.new.page 4 4 _ c.turn_four-2.ensures
    (turns_on c.args.source.now c.turn_four-2.new.page c.turn_four-3.new.page c.turn_two-2.new.page 8 4 _ c.turn_four-3.ensures
    (turns_on c.args.source.now c.turn_four-3.new.page c.turn_four-4.new.page c.turn_two-2.new.page 12 4 _ c.turn_four-4.ensures
    (turns_on c.args.source.now c.turn_four-4.new.page c.turn_four-5.new.page c.turn_two-2.new.page 16 4 _ c.turn_four-5.ensures
    (turns_on c.args.source.now c.turn_four-5.new.page c.turn_two.new.page c.turn_two-2.new.page 20 2 _ c.turn_two.ensures
    (turns_one c.args.source.now c.turn_two.new.page c.turn_two-2.new.page 22 2 c.turn_two-2.ensures))))))
