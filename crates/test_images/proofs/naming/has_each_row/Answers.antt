-- Each row was passed.
use Rattle.std.proofs.Common.{arith, Contains}
use Rattle.test_images.specs.Rows.{row_fault}
use Rattle.test_images.proofs.RowLemmas.{each_told}
use Rattle.test_images.proofs.naming.has_each_row.Goals as goal

pub returns : goal.returns
returns c =
    λ _ fault at. each_told (Contains c.args.list.now) (row_fault c.args.stage) c.args.rows.now fault (λ k lt. c.loop-row.invariant k (omega arith)) at
