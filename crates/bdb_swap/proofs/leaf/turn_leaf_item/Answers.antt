use Rattle.std.proofs.Common.{[], ◌∷◌, ◌+◌}
use Rattle.bdb_law_turned.specs.Fields.{field}
use Rattle.bdb_swap.proofs.WriteLemmas.{turns_both, turns_one}
use Rattle.bdb_swap.proofs.leaf.turn_leaf_item.Goals as goal

pub returns-in-Inline-clause-turns : goal.returns-in-Inline-clause-turns
returns-in-Inline-clause-turns c = rw c.in-Inline.is (turns_one c.args.source.now c.args.page.now c.turn_two.new.page c.args.at 2 c.turn_two.ensures)

pub returns-in-Duplicates-clause-turns : goal.returns-in-Duplicates-clause-turns
returns-in-Duplicates-clause-turns c =
    rw c.in-Duplicates.is (turns_one c.args.source.now c.args.page.now c.turn_four.new.page (c.args.at + 4) 4 c.turn_four.ensures)

-- First the head, then the total.
pub returns-in-Overflow-clause-turns : goal.returns-in-Overflow-clause-turns
returns-in-Overflow-clause-turns c =
    rw c.in-Overflow.is (turns_both c.args.source.now c.args.page.now c.turn_four-in-Overflow.new.page c.turn_four-in-Overflow-2.new.page
    (field (c.args.at + 4) 4 ∷ []) (field (c.args.at + 8) 4 ∷ [])
    (turns_one c.args.source.now c.args.page.now c.turn_four-in-Overflow.new.page (c.args.at + 4) 4 c.turn_four-in-Overflow.ensures)
    (turns_one c.args.source.now c.turn_four-in-Overflow.new.page c.turn_four-in-Overflow-2.new.page (c.args.at + 8) 4 c.turn_four-in-Overflow-2.ensures))
