use Rattle.std.proofs.Common.{sum_by}
use Rattle.bdb_graph.proofs.MarkLemmas.{IsMarking, unmarked}
use Rattle.bdb_image.specs.of_format.Terms.{file_of}
use Rattle.bdb_graph.proofs.reach.mark_way.Given as goal

-- The way from this page on is to be marked.
abbrev pub invariant-up : goal.invariant-up
invariant-up l = IsMarking (file_of l.roles) l.marks l.at l.reached

abbrev pub decreases-up : goal.decreases-up
decreases-up l = sum_by unmarked l.marks
