use Rattle.std.proofs.Common.{ap, ◌∙◌, Some}
use Rattle.bdb_tool_words.specs.ArgumentsSeen.{option_seen}
use Rattle.bdb_tool_words.proofs.ReadLemmas.{value_read}
use Rattle.bdb_tool_words.proofs.options.Arguments.value.Goals as goal

pub returns : goal.returns
returns c =
    value_read _ c.args.self.now (option_seen c.args.option).word _ (c.self.invariant.all_is ∙ ap Some c.self.view_is)
    (rw c.word_of.ensures at c.value_from.ensures)
