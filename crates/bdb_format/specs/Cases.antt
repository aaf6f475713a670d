-- What a row is told as: a fault, or a case that isn't supported. Source: docs/FORMAT.md, "Unsupported cases".
use Rattle.std.specs.Prelude.{ℕ, Option, Some, None}
use Rattle.bdb_format.specs.declared.kinds.Fault.{Fault}
use Rattle.bdb_format.specs.declared.kinds.Unsupported.{Unsupported}
use Rattle.bdb_format.specs.declared.metadata.MetaFault.{MetaFault}
use Rattle.bdb_format.specs.declared.metadata.MetaFault.TheVariants.{Fault as CodeFault, Unsupported as NamedCase}
use Rattle.bdb_format.specs.Verdict.{Judgement, Faulty, LeftOut, judgement_of}
use Rattle.bdb_format.specs.FaultTable.{fault_at}
use Rattle.bdb_format.specs.declared.named.Named.{Named}

-- a code, which may be that of a case
abbrev pub case_seen : ℕ → Option Unsupported → MetaFault
case_seen code None = CodeFault code
case_seen code (Some name) = NamedCase name

-- a fault, which may be a case
abbrev pub judged_as : Fault → Option Unsupported → Judgement
judged_as fault None = Faulty fault
judged_as fault (Some name) = LeftOut name fault.page

-- the fault of a row at a page
abbrev pub fault_seen : Named → Fault
fault_seen named = fault_at named.row named.page

-- and the judgement on it
abbrev pub judgement_seen : Named → Judgement
judgement_seen named = judgement_of (fault_seen named)
