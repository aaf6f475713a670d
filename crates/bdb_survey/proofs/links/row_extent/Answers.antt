use Rattle.std.proofs.Common.{◌≡◌, ◌+◌, ◌<◌, sym, ◌∙◌, ap, arith, subst, Some}
use Rattle.bdb_survey.specs.Links.{is_of_kind}
use Rattle.bdb_survey.proofs.WalkLemmas.{IsAt, at_end, at_first, at_last, at_next, at_none}
use Rattle.bdb_survey.proofs.links.row_extent.Goals as goal

pub loop-turn-init : goal.loop-turn-init
loop-turn-init g c = at_first _ _ _ _

-- A page that's no link ends the row.
pub returns-in_err-link-clause-extent : goal.returns-in_err-link-clause-extent
returns-in_err-link-clause-extent g c =
    c.from_residual.ensures ∙ sym (at_none _ _ _ _ _ _ _ _ _ c.loop-turn.invariant (sym c.link_at.ensures ∙ c.in_err-link.was))

-- The last page.
pub returns-then-link-eq0-clause-extent : goal.returns-then-link-eq0-clause-extent
returns-then-link-eq0-clause-extent g c =
    let few : c.args.pages.now.count ≡ c.count-turn-end.result = sym c.count-turn-end.ensures.count in
    let below : c.loop-turn.turn < c.args.pages.now.count = omega (arith, c.loop-turn-test.true, few) in
    sym (at_last _ _ _ _ _ _ _ _ _ c.in_ok-link.link c.loop-turn.invariant below (sym c.link_at.ensures ∙ c.in_ok-link.was) c.if-link-eq0.true
    ∙ ap (λ n. Some (record { length = c.loop-turn.length + n; pages = c.loop-turn.turn + 1 })) (sym c.from-length.ensures))

-- Another page: what comes after it is left.
pub loop-turn-preserved : goal.loop-turn-preserved
loop-turn-preserved g c =
    let few : c.args.pages.now.count ≡ c.count-turn-end.result = sym c.count-turn-end.ensures.count in
    let below : c.loop-turn.turn < c.args.pages.now.count = omega (arith, c.loop-turn-test.true, few) in
    let short : c.in_ok-link.link.length < 65536 = omega arith in
    let next : IsAt c.args.pages.now (is_of_kind c.args.kind) c.args.head (c.loop-turn.turn + 1) c.loop-turn.page c.in_ok-link.link.next
    (c.loop-turn.length + c.in_ok-link.link.length) (c.loop-turn.steps + 1) c.args.steps.now =
    at_next _ _ _ _ _ _ _ _ _ c.in_ok-link.link c.loop-turn.invariant below (sym c.link_at.ensures ∙ c.in_ok-link.was) c.if-link-eq0.false short in
    subst (λ n. IsAt c.args.pages.now (is_of_kind c.args.kind) c.args.head (c.loop-turn.turn + 1) c.loop-turn.page c.in_ok-link.link.next
    (c.loop-turn.length + n) c.tick.new.self c.args.steps.now) (sym c.from-length.ensures)
    (subst (λ s. IsAt c.args.pages.now (is_of_kind c.args.kind) c.args.head (c.loop-turn.turn + 1) c.loop-turn.page c.in_ok-link.link.next
    (c.loop-turn.length + c.in_ok-link.link.length) s c.args.steps.now) (sym c.tick.ensures) next)

-- No turn is left: more pages than there are can't follow each other.
pub returns-clause-extent : goal.returns-clause-extent
returns-clause-extent g c = sym (at_end _ _ _ _ _ _ _ _ _ c.loop-turn.invariant (omega (arith, c.loop-turn-test.false, c.count-turn-end.ensures.count)))
