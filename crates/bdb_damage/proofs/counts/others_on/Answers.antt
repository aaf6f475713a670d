use Rattle.std.proofs.Common.{Bool, ℕ, List, arith, ap, cond, length}
use Rattle.std.specs.Prelude.{not}
use Rattle.std.specs.List.{count_by}
use Rattle.std.proofs.lemmas.List.Sums.{count_by-le-length, length-filter}
use Rattle.bdb_apart.specs.of_rescue.Kept.{Reading, file_in}
use Rattle.bdb_apart.specs.of_survey.Salvage.{stored_on}
use Rattle.bdb_apart.specs.Found.{found}
use Rattle.bdb_apart.specs.Given.{names_found}
use Rattle.bdb_damage.proofs.StepLemmas.{left_more}
use Rattle.bdb_damage.proofs.counts.others_on.Goals as goal

pub overflow_add-count : goal.overflow_add-count
overflow_add-count c =
    omega (
      arith,
      c.loop-key.invariant,
      c.from-count.ensures,
      c.one.ensures.value,
      ap {B = ℕ} (λ (b : Bool). cond (not b) 1 0) c.names_found.ensures,
      left_more (λ (pair : List ℕ × List ℕ). not (names_found (found c.args.apart.now) pair)) c.in-Some.ensures.steps,
      count_by-le-length (λ (pair : List ℕ × List ℕ). not (names_found (found c.args.apart.now) pair)) (stored_on (file_in c.args.apart.now) c.args.page),
      c.pairs_on-few.ensures.few,
      c.pairs_on-few.ensures.count,
      ap (λ (r : Reading). length (stored_on (file_in r) c.args.page)) c.salvaged.ensures,
    )

-- One pair more.
pub loop-key-preserved : goal.loop-key-preserved
loop-key-preserved c =
    omega (
      arith,
      c.loop-key.invariant,
      c.from-count.ensures,
      c.one.ensures.value,
      ap {B = ℕ} (λ (b : Bool). cond (not b) 1 0) c.names_found.ensures,
      left_more (λ (pair : List ℕ × List ℕ). not (names_found (found c.args.apart.now) pair)) c.in-Some.ensures.steps,
    )

pub returns : goal.returns
returns c =
    omega (
      arith,
      c.loop-key.invariant,
      ap (count_by (λ (pair : List ℕ × List ℕ). not (names_found (found c.args.apart.now) pair))) c.in-None.ensures.steps.0,
      length-filter (λ (pair : List ℕ × List ℕ). not (names_found (found c.args.apart.now) pair)) (stored_on (file_in c.args.apart.now) c.args.page),
    )
