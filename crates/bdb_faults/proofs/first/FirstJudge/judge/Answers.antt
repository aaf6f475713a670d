use Rattle.std.proofs.Common.{rules, ◌≡◌, Some, None}
use Rattle.bdb_format.specs.Terms.{fault_seen}
use Rattle.bdb_faults.proofs.FirstLemmas.{first_accepted, first_refused}
use Rattle.bdb_faults.proofs.first.FirstJudge.judge.Goals as goal

pub returns-in-None-clause-accepted : goal.returns-in-None-clause-accepted
returns-in-None-clause-accepted c =
    let none : c.args.self ≡ None = search rules in λ faults up has. first_accepted c.args.self faults none has

pub returns-in-Some-clause-refused : goal.returns-in-Some-clause-refused
returns-in-Some-clause-refused c =
    let some : c.args.self ≡ Some (fault_seen c.in-Some.named) = search rules in
    λ faults up has. first_refused c.args.self (fault_seen c.in-Some.named) faults some up has
