-- What is wanted of a damaged image, and what is answered. Source: man/bdbtool.1.
use Rattle.std.specs.Prelude.{Bool, Option, None, List, ℕ}
use Rattle.bdb_repair.specs.of_format.declared.kinds.Unsupported.{Unsupported}
use Rattle.bdb_repair.specs.of_model.Answers.{Answer}
use Rattle.bdb_repair.specs.of_rescue.Guesses.{chosen, unsupported_case}
use Rattle.bdb_repair.specs.of_survey.declared.guess.Guess.{Guess}
use Rattle.bdb_tool_words.specs.declared.command.Parts.{Parts}
use Rattle.bdb_tool_words.specs.declared.command.Parts.TheVariants as parts
use Rattle.bdb_tool_words.specs.declared.command.Salvage.{Salvage}
use Rattle.bdb_tool.specs.declared.salvaging.Extract.TheVariants as extract
use Rattle.bdb_tool.specs.declared.salvaging.Wanted.{Wanted}
use Rattle.bdb_tool.specs.declared.salvaging.Wanted.TheVariants.{Together, Extract as ByDatabase}
use Rattle.bdb_tool.specs.Outputs.{extract_by, salvaged_answer, unless_unsupported}

-- what `salvage` wants, by its parts and by whether data may be printed
abbrev pub wanted_parts : Parts → Bool → Wanted
wanted_parts parts.Together print = Together print
wanted_parts parts.Apart print = ByDatabase (extract.Apart print)
wanted_parts parts.Rest print = ByDatabase (extract.Rest print)

abbrev pub wanted_of : Salvage → Wanted
wanted_of asked = wanted_parts asked.parts asked.print

-- the case of page 0 that is told in place of it
abbrev pub case_of : Wanted → Option Guess → List ℕ → Option Unsupported
case_of (Together print) guess image = None
case_of (ByDatabase (extract.Apart print)) guess image = unsupported_case guess image
case_of (ByDatabase (extract.Rest print)) guess image = unsupported_case guess image
case_of (ByDatabase (extract.Survey case)) guess image = None

-- by a guess, if there is one
abbrev pub wanted_by : Wanted → Option Guess → List ℕ → Answer
wanted_by (Together print) guess image = salvaged_answer guess print image
wanted_by (ByDatabase extract) guess image = extract_by guess extract image

-- by the guess that is given, or else that of page 0
abbrev pub wanted_answer : Wanted → Option Guess → List ℕ → Answer
wanted_answer wanted guess image = unless_unsupported (case_of wanted guess image) (wanted_by wanted (chosen guess image) image)
