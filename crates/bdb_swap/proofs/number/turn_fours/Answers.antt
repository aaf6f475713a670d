use Rattle.std.proofs.Common.{◌≡◌, ◌+◌, ◌*◌, arith, subst}
use Rattle.bdb_law_turned.specs.Fields.{fours}
use Rattle.bdb_swap.specs.Turns.{Turns}
use Rattle.bdb_swap.proofs.PartLemmas.{fours_more, turns_then}
use Rattle.bdb_swap.proofs.number.turn_fours.Goals as goal

pub loop-i-preserved : goal.loop-i-preserved
loop-i-preserved c = record {
  turns = turns_then c.args.source.now c.args.page.now c.loop-i.page c.turn_four.new.page (fours c.args.at c.loop-i.i) (fours c.args.at (c.loop-i.i + 1))
      (c.args.at + 4 * c.loop-i.i) 4
      c.loop-i.invariant.turns c.turn_four.ensures (fours_more c.args.at c.loop-i.i);
  same = omega (arith, c.loop-i.invariant.same);
}

pub returns-clause-turns : goal.returns-clause-turns
returns-clause-turns c =
    let all : c.loop-i.i ≡ c.args.count = omega arith in
    subst (λ n. Turns c.args.source.now (fours c.args.at n) c.args.page.now c.loop-i.page) all c.loop-i.invariant.turns
