use Rattle.std.proofs.Common.{◌≤◌, arith, subst, sym}
use Rattle.bdb_image.specs.of_format.Terms.{file_of}
use Rattle.bdb_graph.specs.Blanks.{ArePassed, IsAfter}
use Rattle.bdb_graph.proofs.BlankLemmas.{next_after, same_page}
use Rattle.bdb_graph.proofs.blanks.pass_blanks.Goals as goal
use Rattle.bdb_graph.proofs.blanks.pass_blanks.Goals.{then-link-gt0, else-link-gt0}

-- The pages without data end at one with data; and one without is passed.
pub loop-turn-preserved : goal.loop-turn-preserved
loop-turn-preserved c =
    let file = file_of c.args.formed.now in
    let high : c.loop-turn.page ≤ (file_of c.args.formed.now).last = omega
    (arith, c.if-page-head.false, c.head.ensures.last) in
    elim c.if-link-gt0.branch [
      | then-link-gt0 w ↦ record {
        all = subst (ArePassed file) (sym w.nexts-is) (w.stand_for.ensures file c.loop-turn.invariant.here c.loop-turn.invariant.all);
        here = subst (λ first. IsAfter file first c.link_at-link.result.next) (sym w.first-is) (same_page file c.link_at-link.result.next);
      }
      | else-link-gt0 w ↦ record {
        all = subst (ArePassed file) (sym w.nexts-is) c.loop-turn.invariant.all;
        here =
            subst (λ first. IsAfter file first c.link_at-link.result.next) (sym w.first-is)
            (next_after file c.loop-turn.first c.loop-turn.page c.link_at-link.result.length c.link_at-link.result.next c.loop-turn.invariant.here
            (omega (arith, c.if-page-eq0.false)) high c.link_at-link.ensures.length (omega (arith, w.if-link-gt0.false)) c.link_at-link.ensures.next);
      }
    ]
