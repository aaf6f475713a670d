use Rattle.std.proofs.Common.{ap, None, false}
use Rattle.bdb_btree.specs.Bounds.{Bounds, Ends}
use Rattle.bdb_btree.proofs.separators.Bounds.new.Goals as goal

pub returns-clause-none : goal.returns-clause-none
returns-clause-none c =
    λ file.
    let with_ends : Ends → Bounds = λ ends. record { separator = None; greatest = ends.greatest; wrong = false } in
    ap with_ends (c.new.ensures.none file)

pub returns-clause-fits : goal.returns-clause-fits
returns-clause-fits c = λ file. record { separator = tt; ends = c.new.ensures.fits file }
