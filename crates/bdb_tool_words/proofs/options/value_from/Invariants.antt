use Rattle.std.proofs.Common.{map, drop, length, ◌-◌}
use Rattle.bdb_tool_words.specs.Arguments.{arguments}
use Rattle.bdb_tool_words.specs.ArgumentsSeen.{option_seen}
use Rattle.bdb_tool_words.proofs.ReadLemmas.{IsLeft}
use Rattle.bdb_tool_words.proofs.options.value_from.Given as goal

abbrev pub invariant-loop-at : goal.invariant-loop-at
invariant-loop-at l =
    IsLeft l.word (arguments (map option_seen l.options) (drop l.place l.words)) (arguments (map option_seen l.options) (drop l.at l.words))

abbrev pub decreases-loop-at : goal.decreases-loop-at
decreases-loop-at l = length l.words - l.at
