use Rattle.bdb_format.specs.Terms.{file_of}
use Rattle.bdb_graph_tests.specs.Sought.{AllFit}
use Rattle.bdb_graph_tests.proofs.descents.are_fit.Given as goal

abbrev pub invariant-loop-number : goal.invariant-loop-number
invariant-loop-number l = AllFit l.sought.key.now (file_of l.linked) l.number
