use Rattle.std.proofs.Common.{subst, Option, option_map}
use Rattle.bdb_format.specs.Terms.{fault_seen}
use Rattle.bdb_format.specs.declared.named.Named.{Named}
use Rattle.bdb_faults.specs.Notes.{IsFirst}
use Rattle.bdb_faults.proofs.FirstLemmas.{first_kept, first_taken}
use Rattle.bdb_faults.proofs.first.earlier.Goals as goal

pub returns-in-Some : goal.returns-in-Some
returns-in-Some c = λ faults is. first_kept faults (fault_seen c.in-Some.first) (fault_seen c.args.named)
    (subst (λ (o : Option Named). IsFirst (option_map fault_seen o) faults) c.in-Some.is is) c.if-comes_first.ensures

pub returns-in-Some-2 : goal.returns-in-Some-2
returns-in-Some-2 c = λ faults is. first_taken faults (fault_seen c.in-Some.first) (fault_seen c.args.named)
    (subst (λ (o : Option Named). IsFirst (option_map fault_seen o) faults) c.in-Some.is is) c.if-comes_first.ensures
