-- A refusal of a whole file. Source: docs/FORMAT.md, "Faults".
use Rattle.std.specs.Prelude.{◌≡◌, ℕ, List, Some}
use Rattle.bdb_check.specs.of_any_order.AnyOrder.{verdict_by}
use Rattle.bdb_check.specs.of_any_order.declared.rows.Rows.{Rows}
use Rattle.bdb_check.specs.of_format.declared.kinds.Verdict.{Verdict}
use Rattle.bdb_check.specs.of_format.declared.kinds.Verdict.TheVariants.{Fault as FaultVerdict, Unsupported, Memory}
use Rattle.bdb_check.specs.of_format.Terms.{Faulty, LeftOut, verdict_of}

-- a refusal tells the verdict, or is lack of memory
abbrev pub IsVerdictOf : List ℕ → Verdict → Type 0
IsVerdictOf image (FaultVerdict fault) = verdict_of image ≡ Some (Faulty fault)
IsVerdictOf image (Unsupported name page) = verdict_of image ≡ Some (LeftOut name page)
IsVerdictOf image Memory = Unit {0}
