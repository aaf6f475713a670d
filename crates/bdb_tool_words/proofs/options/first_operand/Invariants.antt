use Rattle.std.proofs.Common.{◌≡◌, map, drop, length, ◌-◌}
use Rattle.bdb_tool_words.specs.Arguments.{arguments, once}
use Rattle.bdb_tool_words.specs.ArgumentsSeen.{option_seen}
use Rattle.bdb_tool_words.proofs.ReadLemmas.{operands_in}
use Rattle.bdb_tool_words.proofs.options.first_operand.Given as goal

-- The operands are those of the words from the place on.
abbrev pub invariant-loop-at : goal.invariant-loop-at
invariant-loop-at l =
    operands_in (once (arguments (map option_seen l.options) (drop 1 l.words)))
    ≡ operands_in (once (arguments (map option_seen l.options) (drop l.at l.words)))

abbrev pub decreases-loop-at : goal.decreases-loop-at
decreases-loop-at l = length l.words - l.at
