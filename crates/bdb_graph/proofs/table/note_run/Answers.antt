use Rattle.std.proofs.Common.{◌≤◌, ◌⊎◌, ◌+◌, arith, inl, inr, length}
use Rattle.std.proofs.lemmas.Bool.{cases_lt}
use Rattle.bdb_graph.proofs.RunLemmas.{none_there, noted_all, noted_first, noted_more, other_leaps}
use Rattle.bdb_graph.proofs.table.note_run.Goals as goal

-- The full pages at the run's beginning are leapt over.
pub pages-init : goal.pages-init
pages-init c =
    noted_first c.args.tallies.now c.first_open-at.new.leaps c.args.holder c.args.run.first c.args.run.len c.first_open-at.result
    (other_leaps c.args.tallies.now c.args.leaps.now c.first_open-at.new.leaps c.requires c.first_open-at.auto.leaps c.first_open-at.ensures.leaps
    (c.first_open-at.ensures.over _ c.requires.over))
    c.first_open-at.ensures.on c.first_open-at.ensures.within (c.first_open-at.ensures.full _ c.requires.over)

-- A page is noted, and the full ones behind it are leapt over.
pub pages-preserved : goal.pages-preserved
pages-preserved c =
    noted_more c.args.tallies.now c.pages.tallies c.note_bucket.new.tallies c.pages.leaps c.first_open-at-in-pages.new.leaps c.args.holder c.args.run.first
    c.args.run.len c.pages.at c.first_open-at-in-pages.result c.pages.invariant (omega (arith, c.end.ensures, c.min-end.ensures)) c.note_bucket.ensures.tallies
    c.note_bucket.auto.tallies
    (other_leaps c.note_bucket.new.tallies c.note_bucket.new.leaps c.first_open-at-in-pages.new.leaps c.note_bucket.ensures.leaps
    c.first_open-at-in-pages.auto.leaps c.first_open-at-in-pages.ensures.leaps (c.first_open-at-in-pages.ensures.over _ c.note_bucket.ensures.leaps.over))
    c.first_open-at-in-pages.ensures.on c.first_open-at-in-pages.ensures.within (c.first_open-at-in-pages.ensures.full _ c.note_bucket.ensures.leaps.over)

-- No page of the run is there.
pub returns-then-run-from-clause-tallies : goal.returns-then-run-from-clause-tallies
returns-then-run-from-clause-tallies c = λ os place are.
    none_there c.args.tallies.now c.args.holder c.args.run.first c.args.run.len os place c.requires.few
    (omega (arith, c.end.ensures, c.min-end.ensures, c.from.ensures, c.if-run-from.true)) are

-- The run ends, or the pages do.
pub returns-clause-tallies : goal.returns-clause-tallies
returns-clause-tallies c = λ os place are.
    let done : (c.args.run.first + c.args.run.len ≤ c.pages.at) ⊎ (length c.pages.tallies ≤ c.pages.at) =
    elim (cases_lt c.pages.at (c.args.run.first + c.args.run.len)) [
      | inl before ↦ inr (omega (arith, c.end.ensures, c.min-end.ensures, c.pages-test.false, c.pages.auto.tallies, c.requires.few))
      | inr behind ↦ inl behind
    ] in
    noted_all c.args.tallies.now c.pages.tallies c.pages.leaps c.args.holder c.args.run.first c.args.run.len c.pages.at os place c.pages.invariant done are
