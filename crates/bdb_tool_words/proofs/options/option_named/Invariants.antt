use Rattle.std.proofs.Common.{map}
use Rattle.std.specs.Str.{bytes_eq}
use Rattle.bdb_tool_words.specs.Arguments.{OptionRow}
use Rattle.bdb_tool_words.specs.ArgumentsSeen.{option_seen}
use Rattle.bdb_tool_words.proofs.FindLemmas.{IsPast}
use Rattle.bdb_tool_words.proofs.options.option_named.Given as goal

abbrev pub invariant-loop-option : goal.invariant-loop-option
invariant-loop-option l = IsPast (λ (option : OptionRow). bytes_eq l.word option.word) option_seen (map option_seen l.options) l.options l.option-index
