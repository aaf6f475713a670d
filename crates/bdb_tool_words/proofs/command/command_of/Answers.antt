use Rattle.std.specs.Prelude.{None, Some}
use Rattle.bdb_tool_words.specs.WordsSeen.{row_seen}
use Rattle.bdb_tool_words.proofs.CommandLemmas.{no_word, of_word}
use Rattle.bdb_tool_words.proofs.command.command_of.Goals as goal

pub returns-in_err-first-clause-command : goal.returns-in_err-first-clause-command
returns-in_err-first-clause-command c = rw c.from_residual.ensures (no_word c.args.words.now c.in_err-first.ensures)

pub returns-in_err-row_named-clause-command : goal.returns-in_err-row_named-clause-command
returns-in_err-row_named-clause-command c =
    rw c.from_residual-in_err-row_named.ensures (of_word c.args.words.now c.in_ok-first.first.now None c.in_ok-first.ensures c.in_err-row_named.ensures)

pub returns-clause-command : goal.returns-clause-command
returns-clause-command c =
    rw (of_word c.args.words.now c.in_ok-first.first.now (Some (row_seen c.in_ok-row_named.field-0)) c.in_ok-first.ensures c.in_ok-row_named.ensures)
    c.command_by.ensures.command
