use Rattle.std.proofs.Common.{◌≡◌, ◌∙◌, ℕ, List, arith, subst}
use Rattle.std.specs.List.{flat_map, range_with_len}
use Rattle.bdb_io.specs.of_format.Terms.{entries_of, offset_of}
use Rattle.bdb_law_turned.specs.Fields.{Field}
use Rattle.bdb_swap.specs.Turns.{Turns}
use Rattle.bdb_swap.proofs.PartLemmas.{turns_next}
use Rattle.bdb_swap.proofs.listed.turn_items.Goals as goal

pub loop-i-preserved : goal.loop-i-preserved
loop-i-preserved g c =
    let order = c.args.order in
    let source = c.args.source.now in
    let part : ℕ → List Field = λ i. g.K.TurnKind.fields (offset_of order source i) (g.K.PageKind.item_at order source i) in
    record {
      turns = turns_next source c.args.page.now c.loop-i.page c.turn_item.new.page part c.loop-i.i c.loop-i.invariant.turns c.turn_item.ensures.turns;
      same = c.turn_item.ensures.same ∙ c.loop-i.invariant.same;
    }

pub returns : goal.returns
returns g c =
    let order = c.args.order in
    let source = c.args.source.now in
    let part : ℕ → List Field = λ i. g.K.TurnKind.fields (offset_of order source i) (g.K.PageKind.item_at order source i) in
    let all : c.loop-i.i ≡ entries_of order source = omega (arith, c.u16_at-i-end.ensures) in
    subst (λ n. Turns source (flat_map part (range_with_len 0 n)) c.args.page.now c.loop-i.page) all c.loop-i.invariant.turns
