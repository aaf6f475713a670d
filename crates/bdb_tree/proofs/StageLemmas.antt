-- Stage 6 in its two parts.
use Rattle.std.proofs.Common.{◌≡◌, ◌+◌, []}
use Rattle.bdb_overflow.specs.of_format.Terms.{File, chain_faults, chain_rows, structure_faults, structure_rows, tree_faults, tree_rows}
use Rattle.bdb_overflow.specs.of_format.Verdict.{holding}
use Rattle.bdb_overflow.proofs.of_format.VerdictLemmas.{no_faults, no_rows_at, none_holds}

-- where neither a chain nor a leaf has a fault, no row of the stage holds
pub no_structure_fault : (file : File) → chain_faults file ≡ [] → tree_faults file ≡ [] → structure_faults file ≡ []
unfolding chain_faults tree_faults structure_faults
no_structure_fault file chains trees =
    no_faults 6 0 (file.last + 1) (λ p. holding (structure_rows file p)) (λ p low high.
    none_holds (structure_rows file p)
    ((no_rows_at 6 0 (file.last + 1) p (chain_rows file) chains low high).0, no_rows_at 6 0 (file.last + 1) p (tree_rows file) trees low high))
