use Rattle.std.proofs.Common.{◌≡◌}
use Rattle.bdb_mkqueue.specs.Building.{with_more}
use Rattle.bdb_mkqueue.proofs.build.add_pages.Given as goal

abbrev pub invariant-loop-added : goal.invariant-loop-added
invariant-loop-added l = l.pages ≡ with_more l._added l.initial.pages
