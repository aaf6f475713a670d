-- What is noted, one fault after another.
use Rattle.bdb_ranks.specs.of_format.declared.metadata.HashMeta.{HashMeta}
use Rattle.bdb_ranks.specs.of_format.Terms.{fault_if, file_of, ◌:?◌}
use Rattle.bdb_buckets.specs.Told.{Told}
use Rattle.bdb_buckets.proofs.ContentsLemmas.{contents_fault}
use Rattle.bdb_buckets.proofs.RowLemmas.{pair_table, tests_of}
use Rattle.bdb_hash.specs.Noted.{pair_faults}
use Rattle.std.proofs.Common.{◌≡◌, ℕ, Bool, true, false, [], ◌∷◌, ◌++◌, map, refl}
use Rattle.bdb_ranks.specs.of_format.declared.rows.Row.TheVariants.{Contents}
use Rattle.bdb_ranks.specs.of_format.Verdict.{holding}
use Rattle.bdb_ranks.specs.of_format.declared.rows.ContentsRow.TheVariants.{Duplicates, DuplicateKind, DuplicateOrder, Bucket}

-- the faults of a pair are those of the rows that hold
pub rows_noted : (page : ℕ) (a b c d : Bool)
    → fault_if (Contents Duplicates) page a ++ fault_if (Contents DuplicateKind) page b ++ fault_if (Contents DuplicateOrder) page c
    ++ fault_if (Contents Bucket) page d
    ≡ map (contents_fault page) (holding (1 :? a ∷ 2 :? b ∷ 5 :? c ∷ 8 :? d ∷ []))
rows_noted page true true true true = refl
rows_noted page true true true false = refl
rows_noted page true true false true = refl
rows_noted page true true false false = refl
rows_noted page true false true true = refl
rows_noted page true false true false = refl
rows_noted page true false false true = refl
rows_noted page true false false false = refl
rows_noted page false true true true = refl
rows_noted page false true true false = refl
rows_noted page false true false true = refl
rows_noted page false true false false = refl
rows_noted page false false true true = refl
rows_noted page false false true false = refl
rows_noted page false false false true = refl
rows_noted page false false false false = refl

-- the faults of a pair by itself are those of the tests that hold
pub pair_faults_are : (meta : HashMeta) (b : ℕ) (t : Told)
    → pair_faults meta b t ≡ map (contents_fault t.pair.page) (holding (pair_table (tests_of (file_of t.image) meta) b t.pair))
pair_faults_are meta b t = rows_noted t.pair.page _ _ _ _
