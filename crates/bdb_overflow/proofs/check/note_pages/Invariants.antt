use Rattle.bdb_graph.specs.of_format.Terms.{file_of}
use Rattle.bdb_overflow.proofs.ChainLemmas.{AreNotedBelow}
use Rattle.bdb_overflow.proofs.check.note_pages.Given as goal

-- The pages passed are noted.
abbrev pub invariant-loop-page : goal.invariant-loop-page
invariant-loop-page g l = AreNotedBelow (g.F.FaultSink.has_noted l.fn.found) (g.F.FaultSink.has_noted l.found) (file_of l.linked) l.page
