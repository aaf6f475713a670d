use Rattle.std.proofs.Common.{sum_by}
use Rattle.bdb_graph.proofs.MarkLemmas.{IsClimbing, openness}
use Rattle.bdb_image.specs.of_format.Terms.{file_of}
use Rattle.bdb_graph.proofs.reach.leads_up.Given as goal

-- Each page below this one is on the way.
abbrev pub invariant-up : goal.invariant-up
invariant-up l = IsClimbing (file_of l.roles) l.marks l.from l.at

abbrev pub decreases-up : goal.decreases-up
decreases-up l = sum_by openness l.marks
