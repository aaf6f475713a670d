use Rattle.std.proofs.Common.{◌++◌, sym, ap, subst}
use Rattle.bdb_rescue.specs.Marks.{Marks, leaf_in}
use Rattle.bdb_rescue.proofs.starts.mark_start.Goals as goal

pub returns-in-Set-clause-marks : goal.returns-in-Set-clause-marks
returns-in-Set-clause-marks c = λ count ps before.
    subst (λ xs. Marks count c.mark.new.marks (ps ++ xs)) (sym (ap leaf_in c.in-Set.is)) (c.mark.ensures.marks count ps before)
