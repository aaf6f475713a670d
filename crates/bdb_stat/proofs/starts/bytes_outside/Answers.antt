use Rattle.std.proofs.Common.{◌≡◌, ◌≤◌, ◌+◌, ◌-◌, arith, length, sym, subst}
use Rattle.bdb_law_turned.specs.of_format.Terms.{entries_of, index_end, offset_of}
use Rattle.bdb_stat.specs.Unused.{places_outside}
use Rattle.bdb_stat.proofs.SweepLemmas.{AreItems, at_end, at_next, few_so_far, room_at}
use Rattle.bdb_stat.proofs.starts.bytes_outside.Goals as goal

pub overflow_add-outside : goal.overflow_add-outside
overflow_add-outside g c =
    let few : c.loop-at.outside ≤ c.loop-at.reached =
    few_so_far (index_end c.args.order c.args.page.now) (length c.args.starts.now) (entries_of c.args.order c.args.page.now)
    (offset_of c.args.order c.args.page.now)
    (g.K.EndKind.end c.args.order c.args.page.now) c.loop-at.from c.loop-at.reached c.loop-at.outside c.loop-at.invariant in
    omega (arith, c.saturating_sub-outside.ensures, c.in-Some.ensures.high, c.loop-at.invariant.reached_high, c.requires.size)

pub end_at-requires : goal.end_at-requires
end_at-requires g c =
    let room =
    room_at c.args.starts.now (index_end c.args.order c.args.page.now) g.K.EndKind.least (entries_of c.args.order c.args.page.now)
    (offset_of c.args.order c.args.page.now)
    (g.K.EndKind.end c.args.order c.args.page.now) c.in-Some.at
    (subst (λ size. AreItems (index_end c.args.order c.args.page.now) size g.K.EndKind.least (entries_of c.args.order c.args.page.now)
    (offset_of c.args.order c.args.page.now) (g.K.EndKind.end c.args.order c.args.page.now)) (sym c.requires.size) c.requires.items)
    c.requires.marked c.in-Some.ensures.high c.in-Some.ensures.marked in
    omega (arith, room, c.requires.size)

pub loop-at-preserved : goal.loop-at-preserved
loop-at-preserved g c =
    rw (c.max-reached.ensures, c.end_at.ensures, c.saturating_sub-outside.ensures)
    (at_next c.args.starts.now (index_end c.args.order c.args.page.now) g.K.EndKind.least (entries_of c.args.order c.args.page.now)
    (offset_of c.args.order c.args.page.now) (g.K.EndKind.end c.args.order c.args.page.now) c.loop-at.from c.loop-at.reached c.loop-at.outside c.in-Some.at
    (subst (λ size. AreItems (index_end c.args.order c.args.page.now) size g.K.EndKind.least (entries_of c.args.order c.args.page.now)
    (offset_of c.args.order c.args.page.now) (g.K.EndKind.end c.args.order c.args.page.now)) (sym c.requires.size) c.requires.items)
    c.requires.marked c.loop-at.invariant c.in-Some.ensures)

pub overflow_add-result : goal.overflow_add-result
overflow_add-result g c =
    let few : c.loop-at.outside ≤ c.loop-at.reached =
    few_so_far (index_end c.args.order c.args.page.now) (length c.args.starts.now) (entries_of c.args.order c.args.page.now)
    (offset_of c.args.order c.args.page.now)
    (g.K.EndKind.end c.args.order c.args.page.now) c.loop-at.from c.loop-at.reached c.loop-at.outside c.loop-at.invariant in
    omega (arith, c.loop-at.invariant.reached_high, c.requires.size)

pub returns : goal.returns
returns g c =
    subst (λ size. c.loop-at.outside + (size - c.loop-at.reached) ≡ places_outside (index_end c.args.order c.args.page.now) size
    (entries_of c.args.order c.args.page.now) (offset_of c.args.order c.args.page.now)
    (λ i. g.K.EndKind.end c.args.order c.args.page.now (offset_of c.args.order c.args.page.now i))) c.requires.size
    (at_end c.args.starts.now (index_end c.args.order c.args.page.now) g.K.EndKind.least (entries_of c.args.order c.args.page.now)
    (offset_of c.args.order c.args.page.now) (g.K.EndKind.end c.args.order c.args.page.now) c.loop-at.from c.loop-at.reached c.loop-at.outside
    (subst (λ size. AreItems (index_end c.args.order c.args.page.now) size g.K.EndKind.least (entries_of c.args.order c.args.page.now)
    (offset_of c.args.order c.args.page.now) (g.K.EndKind.end c.args.order c.args.page.now)) (sym c.requires.size) c.requires.items)
    c.requires.marked c.loop-at.invariant c.in_default.ensures)
