use Rattle.bdb_faults.proofs.ListLemmas.{list_empty, list_is, list_some}
use Rattle.bdb_faults.proofs.list.NamedListJudge.judge.Goals as goal

pub returns-then-is_empty-clause-accepted : goal.returns-then-is_empty-clause-accepted
returns-then-is_empty-clause-accepted c = λ faults up has. list_empty faults has.0 c.is_empty.result has.2 (c.is_empty.ensures has.0 has.1) c.if-is_empty.true

pub returns-clause-refused : goal.returns-clause-refused
returns-clause-refused c = λ faults up has. (
  list_some faults has.0 c.is_empty.result has.2 (c.is_empty.ensures has.0 has.1) c.if-is_empty.false,
  list_is faults c.args.self c.settle.new.self up has c.settle.ensures.same c.settle.ensures.order,
)
