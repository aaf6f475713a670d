use Rattle.std.proofs.Common.{◌≡◌, ◌+◌}
use Rattle.std.specs.Prelude.{not}
use Rattle.std.specs.List.{count_by}
use Rattle.bdb_apart.specs.of_rescue.Kept.{file_in}
use Rattle.bdb_apart.specs.of_survey.Salvage.{stored_on}
use Rattle.bdb_apart.specs.Found.{found}
use Rattle.bdb_apart.specs.Given.{names_found}
use Rattle.bdb_damage.proofs.counts.others_on.Given as goal

-- The pairs that name no database, so far and among those that are left, are all.
abbrev pub invariant-loop-key : goal.invariant-loop-key
invariant-loop-key l = l.count + count_by (λ pair. not (names_found (found l.apart) pair)) l._key-iterator
    ≡ count_by (λ pair. not (names_found (found l.apart) pair)) (stored_on (file_in l.apart) l.fn.page)
