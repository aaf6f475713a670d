use Rattle.std.proofs.Common.{arith, sym, ◌∙◌}
use Rattle.bdb_homes.proofs.ClimbLemmas.{begins, ends_nowhere, ends_over, ends_top, ends_turns, onto}
use Rattle.bdb_homes.proofs.climb.own_home.Goals as goal

pub loop-turn-init : goal.loop-turn-init
loop-turn-init c = begins c.args.ups.now c.args.page

pub returns-in-Nowhere : goal.returns-in-Nowhere
returns-in-Nowhere c =
    ends_nowhere c.args.ups.now c.args.page c.loop-turn._turn c.loop-turn.start c.loop-turn.at c.loop-turn.invariant c.loop-turn-test.true
    (sym c.up_at.ensures ∙ c.in-Nowhere.is)

pub returns-in-Metadata : goal.returns-in-Metadata
returns-in-Metadata c =
    ends_top c.args.ups.now c.args.page c.loop-turn._turn c.loop-turn.start c.loop-turn.at c.loop-turn.invariant c.loop-turn-test.true c.in-Metadata.meta
    (sym c.up_at.ensures ∙ c.in-Metadata.is)

pub returns-then-start-gt4294967295 : goal.returns-then-start-gt4294967295
returns-then-start-gt4294967295 c =
    ends_over c.args.ups.now c.args.page c.loop-turn._turn c.loop-turn.start c.loop-turn.at c.loop-turn.invariant c.loop-turn-test.true c.in-Holder.page
    c.in-Holder.before (sym c.up_at.ensures ∙ c.in-Holder.is) (omega (arith, c.saturating_add-start.ensures, c.if-start-gt4294967295.true))

pub loop-turn-preserved : goal.loop-turn-preserved
loop-turn-preserved c =
    onto c.args.ups.now c.args.page c.loop-turn._turn c.loop-turn.start c.loop-turn.at c.loop-turn.invariant c.loop-turn-test.true c.in-Holder.page
    c.in-Holder.before c.saturating_add-start.result (sym c.up_at.ensures ∙ c.in-Holder.is)
    (omega (arith, c.saturating_add-start.ensures, c.if-start-gt4294967295.false)) (omega (arith, c.if-start-gt4294967295.false))

pub returns : goal.returns
returns c =
    ends_turns c.args.ups.now c.args.page c.loop-turn._turn c.loop-turn.start c.loop-turn.at c.loop-turn.invariant (omega (arith, c.loop-turn-test.false))
