use Rattle.std.proofs.Common.{rules, ◌≡◌, ◌∙◌, ◌≤◌, ◌+◌, length, arith, refl, subst, sym}
use Rattle.bdb_law_turned.specs.Fields.{block_fields}
use Rattle.bdb_law_turned.specs.Apart.{run_length}
use Rattle.bdb_swap.specs.Turns.{Turns}
use Rattle.bdb_swap.proofs.WriteLemmas.{room_of_block, turns_block, turns_none, two_lengths}
use Rattle.bdb_swap.proofs.hash.turn_blocks.Goals as goal

pub loop-block-init : goal.loop-block-init
loop-block-init c =
    let same : c.into_iter-block-iterator.result.blocks ≡ c.args.blocks.blocks = search rules in
    record {
      turns = λ last all. subst (λ blocks. Turns c.args.source.now (block_fields c.args.at blocks) c.args.page.now last) same all;
      room = subst (λ blocks. c.args.at + run_length blocks ≤ length c.args.source.now) (sym same) c.requires.room;
      same = refl;
    }

pub loop-block-preserved : goal.loop-block-preserved
loop-block-preserved c =
    let room : (c.loop-block.place + 4 + length c.in-Some.block.now ≤ length c.args.source.now)
    × (c.loop-block.place + (4 + length c.in-Some.block.now) + run_length c.next.new.self.blocks ≤ length c.args.source.now) =
    room_of_block (length c.args.source.now) c.loop-block.place c.loop-block.block-iterator.blocks c.next.new.self.blocks c.in-Some.block.now
    c.in-Some.ensures.steps
    c.loop-block.invariant.room in
    let low : c.loop-block.place + 4 + length c.in-Some.block.now ≤ length c.args.source.now = room.0 in
    record {
      turns = λ last later.
          c.loop-block.invariant.turns last
          (turns_block c.args.source.now c.loop-block.page c.turn_two.new.page c.turn_two-in-loop-block.new.page last c.loop-block.place
          c.loop-block.block-iterator.blocks
          c.next.new.self.blocks c.in-Some.block.now c.in-Some.ensures.steps c.turn_two.ensures c.turn_two-in-loop-block.ensures later);
      room = room.1;
      same = two_lengths c.args.source.now c.loop-block.page c.turn_two.new.page c.turn_two-in-loop-block.new.page c.loop-block.place
          (c.loop-block.place + 2 + length c.in-Some.block.now) c.turn_two.ensures c.turn_two-in-loop-block.ensures
          (c.loop-block.invariant.same ∙ c.requires.same)
          (omega arith) (omega arith)
          ∙ c.loop-block.invariant.same;
    }

-- No block is left to be byte-swapped.
pub returns-clause-turns : goal.returns-clause-turns
returns-clause-turns c =
    c.loop-block.invariant.turns c.loop-block.page
    (subst (λ blocks. Turns c.args.source.now (block_fields c.loop-block.place blocks) c.loop-block.page c.loop-block.page) (sym c.in-None.ensures.steps.0)
    (turns_none c.args.source.now c.loop-block.page))
