use Rattle.std.proofs.Common.{ap, ◌∙◌, is_some}
use Rattle.bdb_tool_words.proofs.ReadLemmas.{is_some-copied}
use Rattle.bdb_tool_words.proofs.options.Arguments.has.Goals as goal

pub returns : goal.returns
returns c = c.is_some.ensures ∙ is_some-copied c.value.result ∙ ap is_some c.value.ensures
