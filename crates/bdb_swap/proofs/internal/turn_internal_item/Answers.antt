use Rattle.std.proofs.Common.{◌+◌}
use Rattle.bdb_swap.proofs.PartLemmas.{turns_on}
use Rattle.bdb_swap.proofs.WriteLemmas.{turns_one}
use Rattle.bdb_swap.proofs.internal.turn_internal_item.Goals as goal

-- One number after another.
pub returns-in-Inline-clause-turns : goal.returns-in-Inline-clause-turns
returns-in-Inline-clause-turns c =
    rw c.in-Inline.is (turns_on c.args.source.now c.args.page.now c.turn_two.new.page c.turn_four-in-Inline.new.page c.args.at 2 _ c.turn_two.ensures
    (turns_on c.args.source.now c.turn_two.new.page c.turn_four.new.page c.turn_four-in-Inline.new.page (c.args.at + 4) 4 _ c.turn_four.ensures
    (turns_one c.args.source.now c.turn_four.new.page c.turn_four-in-Inline.new.page (c.args.at + 8) 4 c.turn_four-in-Inline.ensures)))

pub returns-in-Overflow-clause-turns : goal.returns-in-Overflow-clause-turns
returns-in-Overflow-clause-turns c =
    rw c.in-Overflow.is (turns_on c.args.source.now c.args.page.now c.turn_two-in-Overflow.new.page c.turn_four-in-Overflow-4.new.page c.args.at 2 _
    c.turn_two-in-Overflow.ensures
    (turns_on c.args.source.now c.turn_two-in-Overflow.new.page c.turn_four-in-Overflow.new.page c.turn_four-in-Overflow-4.new.page (c.args.at + 4) 4 _
    c.turn_four-in-Overflow.ensures
    (turns_on c.args.source.now c.turn_four-in-Overflow.new.page c.turn_four-in-Overflow-2.new.page c.turn_four-in-Overflow-4.new.page (c.args.at + 8) 4 _
    c.turn_four-in-Overflow-2.ensures
    (turns_on c.args.source.now c.turn_four-in-Overflow-2.new.page c.turn_four-in-Overflow-3.new.page c.turn_four-in-Overflow-4.new.page (c.args.at + 16) 4 _
    c.turn_four-in-Overflow-3.ensures
    (turns_one c.args.source.now c.turn_four-in-Overflow-3.new.page c.turn_four-in-Overflow-4.new.page (c.args.at + 20) 4 c.turn_four-in-Overflow-4.ensures)))))
