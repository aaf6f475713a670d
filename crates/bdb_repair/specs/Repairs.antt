-- What repairing an image gives. Source: docs/FORMAT.md, "Repair".
use Rattle.std.specs.Prelude.{◌≡◌, ⊤, ℕ, nat_lt, Bool, true, false, List, Option, Some, None, Result, Ok, Err}
use Rattle.bdb_mkfile.specs.Builds.{Builds, image_size}
use Rattle.bdb_mkfile.specs.of_settle.declared.load_error.LoadError.{LoadError}
use Rattle.bdb_mkfile.specs.of_settle.declared.load_error.LoadError.TheVariants.{RecordTooLong, RecordZero, OntoKind, OntoNames, QueueAmongNames}
use Rattle.bdb_mkfile.specs.of_settle.declared.load_error.LoadError.TheVariants.{TooLarge as TooLargeImage, Memory as MemoryForIt}
use Rattle.bdb_rescue.specs.of_survey.declared.guess.Guess.{Guess}
use Rattle.bdb_rescue.specs.declared.error.SalvageError.{SalvageError}
use Rattle.bdb_rescue.specs.declared.error.SalvageError.TheVariants.{NoMeta as NoMetaThere, Memory as MemoryThere}
use Rattle.bdb_repair.specs.declared.error.RepairError.{RepairError}
use Rattle.bdb_repair.specs.declared.error.RepairError.TheVariants.{NoMeta, TooLarge, Memory}
use Rattle.bdb_model.specs.declared.shape.Shape.{Shape}
use Rattle.bdb_repair.specs.Parts.{repair_sections}

abbrev pub repair_error : SalvageError → RepairError
repair_error NoMetaThere = NoMeta
repair_error MemoryThere = Memory

-- the errors of loading that may come of what is salvaged: none of its pairs
abbrev pub may_come : LoadError → Bool
may_come (RecordTooLong line) = false
may_come (RecordZero line) = false
may_come TooLargeImage = true
may_come (QueueAmongNames line) = false
may_come (OntoKind line) = false
may_come (OntoNames line) = false
may_come MemoryForIt = true

abbrev pub repair_refusal : LoadError → RepairError
repair_refusal (RecordTooLong line) = Memory
repair_refusal (RecordZero line) = Memory
repair_refusal TooLargeImage = TooLarge
repair_refusal (QueueAmongNames line) = Memory
repair_refusal (OntoKind line) = Memory
repair_refusal (OntoNames line) = Memory
repair_refusal MemoryForIt = Memory

abbrev pub repair_answer : Result (List ℕ) LoadError → Result (List ℕ) RepairError
repair_answer (Ok image) = Ok image
repair_answer (Err error) = Err (repair_refusal error)

-- by a guess: an image that is built of what is salvaged; that it would be too large, exactly where it would; or lack of memory
abbrev pub IsRepairedBy : ℕ → Option Shape → Guess → List ℕ → Result (List ℕ) RepairError → Type 0
IsRepairedBy max shape guess image (Ok built) =
    Builds (repair_sections shape guess image) built × (nat_lt max (image_size (repair_sections shape guess image)) ≡ false)
IsRepairedBy max shape guess image (Err NoMeta) = ⊥
IsRepairedBy max shape guess image (Err TooLarge) = nat_lt max (image_size (repair_sections shape guess image)) ≡ true
IsRepairedBy max shape guess image (Err Memory) = ⊤

-- without a guess nothing is repaired, and no memory is asked for
abbrev pub IsNotRepaired : Result (List ℕ) RepairError → Type 0
IsNotRepaired (Ok built) = ⊥
IsNotRepaired (Err NoMeta) = ⊤
IsNotRepaired (Err TooLarge) = ⊥
IsNotRepaired (Err Memory) = ⊥

-- the answer, by the guess that is given or told by page 0, where there is one
abbrev pub IsRepaired : ℕ → Option Shape → Option Guess → List ℕ → Result (List ℕ) RepairError → Type 0
IsRepaired max shape None image result = IsNotRepaired result
IsRepaired max shape (Some guess) image result = IsRepairedBy max shape guess image result
