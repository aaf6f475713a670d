use Rattle.std.proofs.Common.{◌≤◌, ◌⊎◌, ◌+◌, arith, inl, inr, length}
use Rattle.std.proofs.lemmas.Bool.{cases_lt}
use Rattle.bdb_homes.proofs.RunLemmas.{none_there, noted_all, noted_first, noted_more, other_leaps}
use Rattle.bdb_homes.proofs.runs.note_run.Goals as goal

-- No page of the run is there.
pub returns-then-first-from-clause-ups : goal.returns-then-first-from-clause-ups
returns-then-first-from-clause-ups c = λ file claims faced meta are.
    none_there file c.args.faces.now c.args.ups.now c.args.holder c.args.first c.args.len claims faced c.requires.few
    (omega (arith, c.saturating_add.ensures, c.from.ensures, c.min-end.ensures, c.from-2.ensures, c.if-first-from.true)) are

-- The closed pages at the run's beginning are leapt over.
pub pages-init : goal.pages-init
pages-init c =
    noted_first c.args.faces.now c.args.ups.now c.first_open-at.new.leaps c.args.holder c.args.first c.args.len c.first_open-at.result
    (other_leaps c.args.faces.now c.args.ups.now c.args.leaps.now c.first_open-at.new.leaps c.requires c.first_open-at.auto.leaps c.first_open-at.ensures.leaps
    (c.first_open-at.ensures.over _ c.requires.over))
    c.first_open-at.ensures.on c.first_open-at.ensures.within (c.first_open-at.ensures.full _ c.requires.over)

-- A page is noted, and the closed ones behind it are leapt over.
pub pages-preserved : goal.pages-preserved
pages-preserved c =
    noted_more c.args.faces.now c.args.ups.now c.pages.ups c.note_bucket.new.ups c.pages.leaps c.first_open-at-in-pages.new.leaps c.args.holder c.args.first
    c.args.len c.pages.at c.first_open-at-in-pages.result c.pages.invariant
    (omega (arith, c.saturating_add.ensures, c.from.ensures, c.min-end.ensures, c.pages-test.true)) c.note_bucket.ensures.ups c.note_bucket.auto.ups
    (other_leaps c.args.faces.now c.note_bucket.new.ups c.note_bucket.new.leaps c.first_open-at-in-pages.new.leaps c.note_bucket.ensures.leaps
    c.first_open-at-in-pages.auto.leaps c.first_open-at-in-pages.ensures.leaps (c.first_open-at-in-pages.ensures.over _ c.note_bucket.ensures.leaps.over))
    c.first_open-at-in-pages.ensures.on c.first_open-at-in-pages.ensures.within (c.first_open-at-in-pages.ensures.full _ c.note_bucket.ensures.leaps.over)

-- The run ends, or the pages do.
pub returns-clause-ups : goal.returns-clause-ups
returns-clause-ups c = λ file claims faced meta are.
    let done : (c.args.first + c.args.len ≤ c.pages.at) ⊎ (length c.pages.ups ≤ c.pages.at) =
    elim (cases_lt c.pages.at (c.args.first + c.args.len)) [
      | inl before ↦ inr (omega (arith, c.saturating_add.ensures, c.from.ensures, c.min-end.ensures, c.pages-test.false, c.pages.auto.ups, c.requires.few))
      | inr behind ↦ inl behind
    ] in
    noted_all c.args.faces.now c.args.ups.now c.pages.ups c.pages.leaps c.args.holder c.args.first c.args.len c.pages.at file claims c.pages.invariant done
    faced meta are
