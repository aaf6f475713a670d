use Rattle.std.specs.Str.{bytes_eq}
use Rattle.bdb_tool_words.specs.Commands.{CommandRow, commands}
use Rattle.bdb_tool_words.specs.WordsSeen.{row_seen}
use Rattle.bdb_tool_words.proofs.FindLemmas.{IsPast}
use Rattle.bdb_tool_words.proofs.command.row_named.Given as goal

abbrev pub invariant-loop-row : goal.invariant-loop-row
invariant-loop-row l = IsPast (λ (row : CommandRow). bytes_eq l.word row.word) row_seen commands l.row-items l.row-index
