use Rattle.std.proofs.Common.{◌+◌}
use Rattle.bdb_swap.proofs.PartLemmas.{turns_on}
use Rattle.bdb_swap.proofs.WriteLemmas.{turns_none, turns_one}
use Rattle.bdb_swap.proofs.hash.turn_hash_item.Goals as goal

pub returns-in-Inline-clause-turns : goal.returns-in-Inline-clause-turns
returns-in-Inline-clause-turns c = rw c.in-Inline.is (turns_none c.args.source.now c.args.page.now)

pub returns-in-Set-clause-turns : goal.returns-in-Set-clause-turns
returns-in-Set-clause-turns c = rw c.in-Set.is c.turn_blocks.ensures.turns

pub returns-in-OffPage-clause-turns : goal.returns-in-OffPage-clause-turns
returns-in-OffPage-clause-turns c =
    rw c.in-OffPage.is (turns_one c.args.source.now c.args.page.now c.turn_four-in-OffPage.new.page (c.args.at + 4) 4 c.turn_four-in-OffPage.ensures)

-- First the head, then the total.
pub returns-in-Overflow-clause-turns : goal.returns-in-Overflow-clause-turns
returns-in-Overflow-clause-turns c =
    rw c.in-Overflow.is (turns_on c.args.source.now c.args.page.now c.turn_four.new.page c.turn_four-in-Overflow.new.page (c.args.at + 4) 4 _
    c.turn_four.ensures
    (turns_one c.args.source.now c.turn_four.new.page c.turn_four-in-Overflow.new.page (c.args.at + 8) 4 c.turn_four-in-Overflow.ensures))
