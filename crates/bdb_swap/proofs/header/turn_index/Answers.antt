use Rattle.std.proofs.Common.{◌≡◌, ◌∙◌, ℕ, ◌+◌, ◌*◌, ◌++◌, ◌∷◌, [], ap, arith, subst, sym}
use Rattle.bdb_io.specs.of_format.Terms.{entries_of}
use Rattle.bdb_law_turned.specs.Fields.{field, index_fields}
use Rattle.bdb_swap.specs.Turns.{Turns}
use Rattle.bdb_swap.proofs.PartLemmas.{index_more, turns_then}
use Rattle.bdb_swap.proofs.header.turn_index.Goals as goal

pub loop-i-preserved : goal.loop-i-preserved
loop-i-preserved c = record {
  turns = turns_then c.args.source.now c.args.page.now c.loop-i.page c.turn_two.new.page (index_fields c.loop-i.i) (index_fields (c.loop-i.i + 1))
      (26 + 2 * c.from.result) 2
      c.loop-i.invariant.turns c.turn_two.ensures (index_more c.loop-i.i ∙ ap (λ (k : ℕ). index_fields c.loop-i.i ++ field (26 + 2 * k) 2 ∷ [])
      (sym c.from.ensures));
  same = omega (arith, c.loop-i.invariant.same);
}

pub returns-clause-turns : goal.returns-clause-turns
returns-clause-turns c =
    let all : c.loop-i.i ≡ entries_of c.args.order c.args.source.now = omega (arith, c.u16_at-i-end.ensures) in
    subst (λ n. Turns c.args.source.now (index_fields n) c.args.page.now c.loop-i.page) all c.loop-i.invariant.turns
