use Rattle.std.proofs.Common.{rules}
use Rattle.bdb_mkfile.proofs.Common.{on_ok_weaker, named_before}
use Rattle.std.proofs.lemmas.Fn.{always_returns_same}
use Rattle.bdb_mkfile.proofs.NameLemmas.{names_weakly}
use Rattle.bdb_mkfile.proofs.order.sort_names.Goals as goal

-- Each comparison answers by the order of names.
pub returns-clause-sorted : goal.returns-clause-sorted
returns-clause-sorted c =
    on_ok_weaker c.sort_by.result (λ sorted. sorted named_before names_weakly (always_returns_same _ _ _ (λ a r f k. search rules)))
    c.sort_by.ensures.sorted

pub returns-clause-stable : goal.returns-clause-stable
returns-clause-stable c = c.sort_by.ensures.stable named_before names_weakly (always_returns_same _ _ _ (λ a r f k. search rules))
