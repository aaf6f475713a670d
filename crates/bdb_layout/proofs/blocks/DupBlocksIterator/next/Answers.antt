use Rattle.std.proofs.Common.{◌≡◌, [], ap, sym, ◌∙◌}
use Rattle.bdb_layout.proofs.BlockLemmas.{none_left}
use Rattle.bdb_layout.proofs.blocks.DupBlocksIterator.next.Goals as goal

-- Where no block begins, none is left.
pub returns-in_err-block-clause-steps : goal.returns-in_err-block-clause-steps
returns-in_err-block-clause-steps c =
    let empty : c.args.self.now.blocks ≡ [] = ap (λ left. left.blocks) (sym c.self.view_is) ∙ none_left c.self.inside.rest.order c.self.inside.rest.bytes.now
    c.self.invariant c.in_err-block.ensures.block in
    rw c.from_residual.ensures (empty, empty)
