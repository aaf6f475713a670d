-- What is answered where something is wanted of a damaged image.
use Rattle.std.proofs.Common.{◌≡◌, ◌∙◌, Bool, ap, refl, subst, sym, List, ℕ, Option, Some, None}
use Rattle.bdb_repair.specs.of_model.Change.{Change}
use Rattle.bdb_repair.specs.of_model.Lines.{memory_line}
use Rattle.bdb_repair.specs.of_rescue.Guesses.{chosen}
use Rattle.bdb_repair.specs.of_rescue.Kept.{Reading}
use Rattle.bdb_repair.specs.of_survey.declared.guess.Guess.{Guess}
use Rattle.bdb_tool.specs.Outputs.{no_metadata, parts_answer}
use Rattle.bdb_tool.specs.Wants.{wanted_answer, wanted_by, wanted_parts}
use Rattle.bdb_tool.specs.declared.salvaging.Wanted.{Wanted}
use Rattle.bdb_tool.specs.declared.salvaging.Wanted.TheVariants.{Together, Extract as ByDatabase}
use Rattle.bdb_tool_ask.specs.of_tool_lines.Finished.{Finishes, HasOwnStatus, Tells}
use Rattle.bdb_tool_ask.proofs.of_tool_lines.FinishLemmas.{memory_finishes}
use Rattle.bdb_tool_ask.proofs.of_tool_lines.PrintingLemmas.{moved}
use Rattle.bdb_tool_words.specs.declared.command.Parts.{Parts}
use Rattle.bdb_tool_words.specs.declared.command.Parts.TheVariants as parts
use Rattle.bdb_tool.proofs.BuiltLemmas.{extract_own, salvaged_own}

-- `salvage` is answered by what it wants
wanted_of_parts : (it : Parts) (guess : Option Guess) (print : Bool) (image : List ℕ)
    → wanted_answer (wanted_parts it print) guess image ≡ parts_answer it guess print image
wanted_of_parts parts.Together guess print image = refl
wanted_of_parts parts.Apart guess print image = refl
wanted_of_parts parts.Rest guess print image = refl

pub parts_finish : (it : Parts) (guess : Option Guess) (print : Bool) (image : List ℕ) (out err : Change) (status : ℕ)
    → Finishes (wanted_answer (wanted_parts it print) guess image) out err status → Finishes (parts_answer it guess print image) out err status
parts_finish it guess print image out err status finishes =
    subst (λ answer. Finishes answer out err status) (wanted_of_parts it guess print image) finishes

-- without a guess there is no answer
pub none_wanted : (wanted : Wanted) (given : Option Guess) (image : List ℕ) → chosen given image ≡ None → wanted_by wanted (chosen given image) image ≡ no_metadata
none_wanted wanted given image none = ap (λ (guess : Option Guess). wanted_by wanted guess image) none ∙ without wanted
  where
    without : (wanted : Wanted) → wanted_by wanted None image ≡ no_metadata
    without (Together print) = refl
    without (ByDatabase extract) = refl

-- what is answered of an image that was read by the guess that was chosen
pub wanted_finishes : (wanted : Wanted) (given : Option Guess) (image : List ℕ) (reading : Reading) (out err : Change) (status : ℕ)
    → chosen given image ≡ Some reading.guess → reading.image ≡ image → Finishes (wanted_by wanted (Some reading.guess) reading.image) out err status
    → Finishes (wanted_by wanted (chosen given image) image) out err status
wanted_finishes wanted given image reading out err status is same finishes =
    subst (λ (guess : Option Guess). Finishes (wanted_by wanted guess image) out err status) (sym is)
    (subst (λ bytes. Finishes (wanted_by wanted (Some reading.guess) bytes) out err status) same finishes)

own : (wanted : Wanted) (guess : Option Guess) (image : List ℕ) → HasOwnStatus (wanted_by wanted guess image)
own (Together print) guess image = salvaged_own guess print image
own (ByDatabase extract) guess image = extract_own guess extract image

-- memory ran out
pub wanted_memory : (wanted : Wanted) (given : Option Guess) (image : List ℕ) (written : Option (List ℕ)) (faults : ℕ) (err : Change) (status : ℕ)
    → Tells memory_line 7 err status → Finishes (wanted_by wanted (chosen given image) image) (moved written written faults faults) err status
wanted_memory wanted given image written faults err status tells =
    memory_finishes (wanted_by wanted (chosen given image) image) written faults err status (own wanted (chosen given image) image) tells
