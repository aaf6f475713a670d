use Rattle.std.proofs.Common.{◌≡◌, ℕ, ◌-◌, ◌^◌, ◌<◌, length, subst, drop, arith, refl, sym, ◌∙◌, ap, length-drop, ◌/◌}
use Rattle.bdb_pack.proofs.Common.{eqb-false, eqb-true, nil_from_length, take_all, size_bounds, IsBegunChain}
use Rattle.bdb_pack.proofs.ValueLemmas.{begun_chain, next_piece, page_left, whole_chain}
use Rattle.bdb_pack.proofs.values.push_value.Goals as goal

pub loop-rest-init : goal.loop-rest-init
loop-rest-init c =
    let old = c.args.pages.now in
    let long = c.if-value-size.false in
    subst (λ (h : ℕ). IsBegunChain old old c.args.value.now h 0 c.args.value.now) (sym c.count-head.ensures.count)
    (begun_chain old c.args.value.now (c.requires.few (omega (arith, long, ap (λ s. s / 8) c.size.ensures.size))))

pub push_piece-requires-clause-few : goal.push_piece-requires-clause-few
push_piece-requires-clause-few c =
    let some : length c.loop-rest.rest.now ≡ 0 → ⊥ = eqb-false (length c.loop-rest.rest.now) 0 (sym c.is_empty.ensures ∙ c.loop-rest-test.true) in
    page_left (2 ^ 21) (length c.loop-rest.pages.pages) (c.args.pages.now.size - 26) (length c.loop-rest.rest.now) (omega arith) c.loop-rest.invariant.few

pub loop-rest-preserved : goal.loop-rest-preserved
loop-rest-preserved c =
    let rest = c.loop-rest.rest.now in
    let n = c.in_ok-number.n in
    let bounds = size_bounds c.size.result c.size.ensures.legal in
    let room : 26 < c.args.pages.now.size = omega (arith, bounds.0, c.size.ensures.size) in
    let some : length rest ≡ 0 → ⊥ = eqb-false (length rest) 0 (sym c.is_empty.ensures ∙ c.loop-rest-test.true) in
    next_piece c.args.pages.now c.loop-rest.pages c.push_piece.new.pages c.args.value.now c.count-head.result c.loop-rest.previous
    c.in_ok-number.number n rest _ c.loop-rest.invariant room (omega arith) c.in_ok-number.ensures.page
    c.in_ok-number.ensures.number c.in_ok-number.ensures.taken (take_all (length rest - n) (drop n rest) (omega (arith, length-drop n rest)))

pub returns : goal.returns
returns c =
    let none = nil_from_length c.loop-rest.rest.now (eqb-true (length c.loop-rest.rest.now) 0 (sym c.is_empty.ensures ∙ c.loop-rest-test.false)) in (
      omega (arith, c.if-value-size.false, ap (λ s. s / 8) c.size.ensures.size),
      refl,
      whole_chain c.args.pages.now c.loop-rest.pages c.args.value.now c.count-head.result c.loop-rest.previous c.loop-rest.rest.now
          c.loop-rest.invariant none c.count-head.ensures.count,
    )
