-- How many pages a run reads for claims.
use Rattle.std.proofs.Common.{ℕ, List, Option, Some, None, arith, inl, inr, refl, subst, sym, true}
use Rattle.bdb_repair.specs.of_model.Change.{Change}
use Rattle.bdb_repair.specs.of_survey.declared.guess.Guess.{Guess}
use Rattle.bdb_tool_words.specs.Commands.{Command, command_on}
use Rattle.bdb_tool_words.specs.WordsSeen.{AreOnto}
use Rattle.bdb_tool.specs.Claims.{CommandReads, ReadsWithin, RunReads, TaskReads, claims_guess}
use Rattle.bdb_tool.specs.Tasks.{IsInputWithin, IsRead, IsTaskTaken}
use Rattle.bdb_tool.specs.declared.task.Task.{Task}
use Rattle.bdb_tool.specs.declared.task.Task.TheVariants.{Ask as AskTask, Load as LoadTask, Read as ReadTask, Repair as RepairTask, Salvage as SalvageTask}
use Rattle.bdb_tool.specs.declared.task.Task.TheVariants.{Survey as SurveyTask, Trial as TrialTask}
use Rattle.bdb_tool.proofs.OntoLemmas.{on_base}

-- without a step all is within
pub unread_within : (claims : Option (Option Guess)) (image : List ℕ) (steps : ℕ) → ReadsWithin claims image steps steps
unread_within None image steps = tt
unread_within (Some guess) image steps = omega arith

unread_by : (claims : Option (Option Guess)) (limit : ℕ) (source : Change) (steps : ℕ) → CommandReads claims limit source steps steps
unread_by None limit source steps = tt
unread_by (Some guess) limit source steps = inl refl

pub unread : (said : Option Command) (source : Change) (steps : ℕ) → RunReads said source steps steps
unread None source steps = refl
unread (Some command) source steps = unread_by (claims_guess command.action) command.limit source steps

-- a command is answered by its input
input_reads : (claims : Option (Option Guess)) (limit : ℕ) (source : Change) (image : List ℕ) (old new : ℕ) → IsInputWithin limit source image
    → ReadsWithin claims image old new → CommandReads claims limit source old new
input_reads None limit source image old new is reads = tt
input_reads (Some guess) limit source image old new is reads = inr (image, is, reads)

said_reads : (said : Option Command) (source : Change) (command : Command) (image : List ℕ) (old new : ℕ) → IsRead said source command image
    → ReadsWithin (claims_guess command.action) image old new → RunReads said source old new
said_reads said source command image old new read reads =
    subst (λ it. RunReads it source old new) (sym read.command_is)
    (input_reads (claims_guess command.action) command.limit source image old new read.input_is reads)

pub task_reads : (said : Option Command) (source : Change) (task : Task) (old new : ℕ) → IsTaskTaken said source task → TaskReads task old new
    → RunReads said source old new
task_reads said source (ReadTask rows reading image) old new taken reads = said_reads said source _ image old new taken.read tt
task_reads said source (AskTask request image) old new taken reads = said_reads said source _ image old new taken.read tt
task_reads said source (LoadTask text limit) old new taken reads = said_reads said source _ text old new taken.read tt
task_reads said source (SalvageTask asked image) old new taken reads = said_reads said source _ image old new taken.read reads
task_reads said source (RepairTask asked image limit) old new taken reads = said_reads said source _ image old new taken.read reads
task_reads said source (SurveyTask guess image) old new taken reads = said_reads said source _ image old new taken.read reads
task_reads said source (TrialTask trial limit) old new taken reads = subst (λ it. RunReads it source old new) (sym taken.command_is) tt

-- a text is loaded onto a base
pub onto_reads : (words : List (List ℕ)) (limit : ℕ) (source : Change) (old new : ℕ) → AreOnto words limit → RunReads (command_on words true) source old new
onto_reads words limit source old new are = subst (λ it. RunReads it source old new) (sym (on_base words limit are)) tt
