use Rattle.std.proofs.Common.{◌≡◌, ◌∙◌, arith, subst}
use Rattle.bdb_law_turned.specs.of_format.Terms.{entries_of, offset_of}
use Rattle.bdb_stat.specs.Starts.{AreStarts}
use Rattle.bdb_stat.proofs.SweepLemmas.{marked_next}
use Rattle.bdb_stat.proofs.starts.mark_starts.Goals as goal

pub loop-i-preserved : goal.loop-i-preserved
loop-i-preserved c = record {
  marked = marked_next c.loop-i.starts c.mark.new.self c.loop-i.i c.from.result (offset_of c.args.order c.args.page.now) c.loop-i.invariant.marked
      c.mark.ensures.same c.mark.ensures.each (c.from.ensures ∙ c.offset_at.ensures);
  same = c.mark.ensures.same ∙ c.loop-i.invariant.same;
}

pub returns-clause-marked : goal.returns-clause-marked
returns-clause-marked c =
    let all : c.loop-i.i ≡ entries_of c.args.order c.args.page.now = omega (arith, c.u16_at-i-end.ensures) in
    subst (λ n. AreStarts c.loop-i.starts n (offset_of c.args.order c.args.page.now)) all c.loop-i.invariant.marked
