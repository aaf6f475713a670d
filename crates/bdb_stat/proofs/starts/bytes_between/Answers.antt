use Rattle.std.proofs.Common.{◌≡◌, ◌≤◌, ◌<◌, ◌+◌, ◌-◌, ◌∙◌, ap, arith, length, subst}
use Rattle.bdb_law_turned.specs.of_format.Terms.{entries_of, index_end, offset_of}
use Rattle.bdb_stat.specs.Unused.{places_outside}
use Rattle.bdb_stat.proofs.GapLemmas.{few_above, falling_again, falling_end, falling_next}
use Rattle.bdb_stat.proofs.starts.bytes_between.Goals as goal
use Rattle.bdb_stat.proofs.starts.bytes_between.Goals.{then-end-lowest, else-end-lowest+else-not-is_shared}

pub overflow_add-outside : goal.overflow_add-outside
overflow_add-outside g c =
    let few : c.loop-i.outside + c.loop-i.lowest ≤ length c.args.page.now =
    few_above (index_end c.args.order c.args.page.now) (length c.args.page.now) c.loop-i.i (offset_of c.args.order c.args.page.now)
    (λ i. g.K.EndKind.end c.args.order c.args.page.now (offset_of c.args.order c.args.page.now i)) c.loop-i.lowest c.loop-i.outside c.loop-i.invariant in
    omega (arith, few)

pub loop-i-preserved : goal.loop-i-preserved
loop-i-preserved g c =
    let there : c.loop-i.i < entries_of c.args.order c.args.page.now = omega (arith, c.loop-i-test.true, c.u16_at-i-end.ensures) in
    let placed = c.requires.items c.loop-i.i there in
    let begins : c.from-at.result ≡ offset_of c.args.order c.args.page.now c.loop-i.i = c.from-at.ensures ∙ c.offset_at.ensures in
    elim c.if-end-lowest.branch [
      | then-end-lowest w ↦
          rw (w.lowest-is, w.outside-is, c.end_at-end.ensures, c.from-at.ensures, c.offset_at.ensures)
          (falling_next (index_end c.args.order c.args.page.now) (length c.args.page.now) c.loop-i.i (offset_of c.args.order c.args.page.now)
          (λ i. g.K.EndKind.end c.args.order c.args.page.now (offset_of c.args.order c.args.page.now i)) c.loop-i.lowest c.loop-i.outside c.loop-i.invariant
          placed.behind placed.some (omega (
            arith,
            w.if-end-lowest.true,
            c.end_at-end.ensures,
            ap (g.K.EndKind.end c.args.order c.args.page.now) begins,
          )))
      | else-end-lowest+else-not-is_shared w ↦
          let shared = w.is_shared.ensures.0 w.if-not-is_shared.false in
          rw (w.lowest-is, w.outside-is)
          (falling_again (index_end c.args.order c.args.page.now) (length c.args.page.now) c.loop-i.i (offset_of c.args.order c.args.page.now)
          (λ i. g.K.EndKind.end c.args.order c.args.page.now (offset_of c.args.order c.args.page.now i)) c.loop-i.lowest c.loop-i.outside (c.loop-i.i - 2)
          c.loop-i.invariant
          (omega (arith, shared.0)) shared.1 (ap (g.K.EndKind.end c.args.order c.args.page.now) shared.1))
    ]

pub overflow_add-result : goal.overflow_add-result
overflow_add-result g c =
    let few : c.loop-i.outside + c.loop-i.lowest ≤ length c.args.page.now =
    few_above (index_end c.args.order c.args.page.now) (length c.args.page.now) c.loop-i.i (offset_of c.args.order c.args.page.now)
    (λ i. g.K.EndKind.end c.args.order c.args.page.now (offset_of c.args.order c.args.page.now i)) c.loop-i.lowest c.loop-i.outside c.loop-i.invariant in
    omega (arith, few)

pub returns : goal.returns
returns g c =
    let all : c.loop-i.i ≡ entries_of c.args.order c.args.page.now = omega (arith, c.u16_at-i-end.ensures) in
    rw c.index_end.ensures
    (subst (λ n. c.loop-i.outside + (c.loop-i.lowest - index_end c.args.order c.args.page.now) ≡ places_outside (index_end c.args.order c.args.page.now)
    (length c.args.page.now) n (offset_of c.args.order c.args.page.now) (λ i. g.K.EndKind.end c.args.order c.args.page.now
    (offset_of c.args.order c.args.page.now i))) all
    (falling_end (index_end c.args.order c.args.page.now) (length c.args.page.now) c.loop-i.i (offset_of c.args.order c.args.page.now)
    (λ i. g.K.EndKind.end c.args.order c.args.page.now (offset_of c.args.order c.args.page.now i)) c.loop-i.lowest c.loop-i.outside c.loop-i.invariant))
