use Rattle.bdb_apart.proofs.EntryLemmas.{piece_fits, piece_more, pieces_end}
use Rattle.bdb_apart.proofs.entry.four_of.Goals as goal

pub put_piece-at-requires : goal.put_piece-at-requires
put_piece-at-requires c =
    piece_fits c.loop-piece.four c.loop-piece.at _ _ _ _ c.loop-piece.invariant.len c.loop-piece.invariant.within c.loop-piece.invariant.parts
    c.requires c.in-Some.ensures.steps

pub loop-piece-preserved : goal.loop-piece-preserved
loop-piece-preserved c = record {
  len = c.type_inv.four;
  within = c.put_piece-at.ensures.within;
  parts = piece_more _ _ _ _ _ _ c.loop-piece.invariant.parts c.in-Some.ensures.steps c.put_piece-at.ensures.put;
}

pub returns : goal.returns
returns c =
    pieces_end c.loop-piece.four c.loop-piece.at _ _ c.loop-piece.invariant.len c.loop-piece.invariant.within c.loop-piece.invariant.parts
    c.requires c.in-None.ensures.steps.0
