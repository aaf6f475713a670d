use Rattle.bdb_ranks.specs.Shared.{AreShared}
use Rattle.bdb_ranks.proofs.shared.shared_chains.Given as goal

-- The chains so far are those of the file.
abbrev pub invariant-loop-page : goal.invariant-loop-page
invariant-loop-page l = AreShared l.forest l.chains.items
