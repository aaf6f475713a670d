use Rattle.bdb_overflow.proofs.piece.Pieces.again.Goals as goal

pub invariant_of-result : goal.invariant_of-result
invariant_of-result c = record { left = c.self.invariant.left; passed = c.again.ensures.passed _ _ _ c.self.invariant.passed }
