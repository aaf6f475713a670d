use Rattle.std.proofs.Common.{rules}
use Rattle.std.proofs.lemmas.Fn.{always_returns_same}
use Rattle.bdb_faults.specs.Members.{is_before}
use Rattle.bdb_faults.proofs.MemberLemmas.{before_weakly}
use Rattle.bdb_faults.proofs.list.sort_members.Goals as goal

-- Each comparison answers by page and code.
pub returns-clause-sorted : goal.returns-clause-sorted
returns-clause-sorted c = c.sort_unstable_by.ensures.sorted is_before before_weakly (always_returns_same _ _ _ (λ a r f k. search rules))
