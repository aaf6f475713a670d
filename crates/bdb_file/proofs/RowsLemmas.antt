-- Where all rows count, what is said of the faults that count is said of the file.
use Rattle.std.proofs.Common.{◌≡◌, ℕ, List, [], Some, None, sym, ◌∙◌, ap, subst, option_map}
use Rattle.bdb_check.specs.of_faults.Refusals.{IsFirstRefusal, first_verdict}
use Rattle.bdb_check.specs.of_format.Terms.{Faulty, Judgement, LeftOut, as_verdict, faults_of, first_judgement, judgement_of, judgement_seen, verdict_of}
use Rattle.bdb_check.specs.of_faults.declared.refusals.FirstError.{FirstError}
use Rattle.bdb_check.specs.of_faults.declared.refusals.FirstError.TheVariants.{Fault as FirstFault, Memory as FirstMemory}
use Rattle.bdb_check.specs.of_format.declared.kinds.Verdict.{Verdict}
use Rattle.bdb_check.specs.of_any_order.AnyOrder.{faults_by_rows}
use Rattle.bdb_file.specs.Whole.{IsVerdictOf}
use Rattle.bdb_check.specs.of_any_order.declared.rows.Rows.TheVariants.{All}
use Rattle.bdb_check.proofs.of_any_order.RowsLemmas.{all_faults}

pub all_accepted : (image : List ℕ) → faults_by_rows All image ≡ [] → faults_of image ≡ []
all_accepted image none = sym (all_faults image) ∙ none

-- What is told of a file by its first fault.

pub none_judged : (image : List ℕ) → faults_of image ≡ [] → verdict_of image ≡ None
none_judged image none = ap first_judgement none

is_verdict : (image : List ℕ) (judgement : Judgement) → verdict_of image ≡ Some judgement → IsVerdictOf image (as_verdict judgement)
is_verdict image (Faulty fault) same = same
is_verdict image (LeftOut name page) same = same

first_refusal : (image : List ℕ) (error : FirstError) → IsFirstRefusal (faults_of image) error → IsVerdictOf image (first_verdict error)
first_refusal image (FirstFault named) is = is_verdict image (judgement_seen named) (ap (option_map judgement_of) is)
first_refusal image FirstMemory is = tt

pub first_told : (image : List ℕ) (error : FirstError) (verdict : Verdict) → IsFirstRefusal (faults_of image) error → verdict ≡ first_verdict error
    → IsVerdictOf image verdict
first_told image error verdict is same = subst (IsVerdictOf image) (sym same) (first_refusal image error is)
