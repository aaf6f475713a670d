use Rattle.std.proofs.Common.{List, ℕ}
use Rattle.bdb_ranks.specs.Ranks.{AreRanked}
use Rattle.bdb_ranks.specs.Shared.{AreShared}
use Rattle.bdb_ranks.proofs.ranking.ranks_in.Given as goal

-- The chains so far have ranks.
abbrev pub invariant-loop-i : goal.invariant-loop-i
invariant-loop-i l = (image : List ℕ) → AreShared image l.chains → AreRanked image l.ranks l.chains l.rank l.i
