-- A refusal by the first fault tells that fault.
use Rattle.std.proofs.Common.{◌≡◌, ◌∙◌, List, ap, subst, sym, Some}
use Rattle.bdb_graph.specs.of_faults.Refusals.{IsFirstRefusal}
use Rattle.bdb_graph.specs.of_faults.declared.refusals.FirstError.{FirstError}
use Rattle.bdb_graph.specs.of_faults.declared.refusals.FirstError.TheVariants.{Fault as FirstFault}
use Rattle.bdb_graph.specs.of_format.Terms.{fault_seen, first_fault}
use Rattle.bdb_graph.specs.of_format.declared.kinds.Fault.{Fault}
use Rattle.bdb_graph.specs.of_format.declared.named.Named.{Named}

pub first_told : (faults : List Fault) (error : FirstError) (named : Named) (fault : Fault) → IsFirstRefusal faults error → error ≡ FirstFault named
    → fault ≡ fault_seen named → first_fault faults ≡ Some fault
first_told faults error named fault is same told = subst (IsFirstRefusal faults) same is ∙ ap Some (sym told)
