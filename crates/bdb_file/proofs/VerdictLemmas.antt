-- The faults of a file that count, by those that opening, linking and the checks after them find.
use Rattle.std.proofs.Common.{◌≡◌, ℕ, ◌+◌, ◌^◌, ◌<◌, ◌≤◌, ◌++◌, length, List, [], ◌∷◌, arith, refl, sym, ◌∙◌, ap, subst, Err, IfErr, IsErrAnd, Ok, Result}
use Rattle.std.specs.List.{range_with_len}
use Rattle.bdb_check.specs.of_format.Terms.{faults_in, file_of, head_of, or_else, stage_faults}
use Rattle.bdb_check.proofs.of_format.VerdictLemmas.{skip_stage, skip_stages}
use Rattle.bdb_check.specs.of_format.declared.kinds.Fault.{Fault}
use Rattle.bdb_check.proofs.of_format.FileLemmas.{count_is, last_page}
use Rattle.bdb_check.specs.of_image.Formed.{IsFormed}
use Rattle.bdb_check.proofs.of_image.FirstLemmas.{formed_last}
use Rattle.bdb_check.specs.of_any_order.AnyOrder.{contents_by, faults_by_rows, stages_by}
use Rattle.bdb_check.specs.of_any_order.declared.rows.Rows.{Rows}
use Rattle.bdb_databases.proofs.ReadableLemmas.{read_in_any_order}
use Rattle.bdb_check.proofs.WholeLemmas.{no_structure_fault, no_master_fault}

-- a linked image passes the first five stages
forest_passes : (image : List ℕ) → faults_in (1 ∷ 2 ∷ []) image ≡ [] → faults_in (3 ∷ 4 ∷ 5 ∷ []) image ≡ []
    → faults_in (1 ∷ 2 ∷ 3 ∷ 4 ∷ 5 ∷ []) image ≡ []
forest_passes image form linked = skip_stages image (1 ∷ 2 ∷ []) (3 ∷ 4 ∷ 5 ∷ []) form ∙ linked

-- so that those of the others count alone
pub forest_skipped : (rows : Rows) (image : List ℕ) → faults_in (1 ∷ 2 ∷ []) image ≡ [] → faults_in (3 ∷ 4 ∷ 5 ∷ []) image ≡ []
    → faults_by_rows rows image ≡ stages_by rows (6 ∷ 7 ∷ []) image
unfolding faults_by_rows
forest_skipped rows image form linked =
    ap (λ fs. or_else fs (λ _. contents_by rows (file_of image)))
    (skip_stages image (1 ∷ 2 ∷ 3 ∷ 4 ∷ 5 ∷ []) (6 ∷ 7 ∷ []) (forest_passes image form linked))

pub file_accepted : (rows : Rows) (image : List ℕ) → faults_in (1 ∷ 2 ∷ []) image ≡ [] → faults_in (3 ∷ 4 ∷ 5 ∷ []) image ≡ []
    → stages_by rows (6 ∷ 7 ∷ []) image ≡ []
    → faults_by_rows rows image ≡ []
file_accepted rows image form linked none = forest_skipped rows image form linked ∙ none

-- A step for each page.

-- the pages up to the last are whole pages of the image
pub whole_pages : (image : List ℕ) → length image ≤ 2 ^ 30 → faults_in (1 ∷ 2 ∷ []) image ≡ [] → (file_of image).last + 1 ≤ (file_of image).count
whole_pages image small form =
    let formed : IsFormed image (head_of image) = record { size = small; head_is = refl; form = form } in
    omega (arith, formed_last image (head_of image) formed, last_page image, count_is image)

-- Where an earlier stage has faults.

-- of some stages the first that has any has all
some_here : (image : List ℕ) (stage : ℕ) (stages more : List ℕ) (faults : List Fault) → stage_faults image stage ≡ faults
    → (faults ≡ [] → faults_in (stage ∷ (stages ++ more)) image ≡ faults_in (stage ∷ stages) image)
    → faults_in (stage ∷ (stages ++ more)) image ≡ faults_in (stage ∷ stages) image
unfolding faults_in
some_here image stage stages more [] same later = later refl
some_here image stage stages more (fault ∷ faults) same later =
    ap (λ fs. or_else fs (λ _. faults_in (stages ++ more) image)) same ∙ sym (ap (λ fs. or_else fs (λ _. faults_in stages image)) same)

some_in : (image : List ℕ) (stages more : List ℕ) → 0 < length (faults_in stages image) → faults_in (stages ++ more) image ≡ faults_in stages image
unfolding faults_in
some_in image [] more some = absurd (omega arith)
some_in image (stage ∷ stages) more some =
    some_here image stage stages more (stage_faults image stage) refl (λ none.
    skip_stage image stage (stages ++ more) none
    ∙ (some_in image stages more (subst (λ fs. 0 < length fs) (skip_stage image stage stages none) some) ∙ sym (skip_stage image stage stages none)))

-- and where one before the last has any, the last doesn't count
some_early : (faults others : List Fault) → 0 < length faults → or_else faults (λ _. others) ≡ faults
some_early [] others some = absurd (omega arith)
some_early (fault ∷ faults) others some = refl

all_early : (rows : Rows) (image : List ℕ) (faults : List Fault) → 0 < length faults → faults_in (range_with_len 1 7) image ≡ faults
    → faults_by_rows rows image ≡ faults
unfolding faults_by_rows
all_early rows image faults some are =
    ap (λ fs. or_else fs (λ _. contents_by rows (file_of image))) are ∙ some_early faults (contents_by rows (file_of image)) some

not_empty : (faults : List Fault) → (faults ≡ [] → ⊥) → 0 < length faults
not_empty [] some = absurd (some refl)
not_empty (fault ∷ faults) some = omega arith

-- those of opening
pub form_alike : (rows : Rows) (image : List ℕ) → (faults_in (1 ∷ 2 ∷ []) image ≡ [] → ⊥) → faults_by_rows rows image ≡ faults_in (1 ∷ 2 ∷ []) image
form_alike rows image found =
    let some : 0 < length (faults_in (1 ∷ 2 ∷ []) image) = not_empty (faults_in (1 ∷ 2 ∷ []) image) found in
    all_early rows image (faults_in (1 ∷ 2 ∷ []) image) some (some_in image (1 ∷ 2 ∷ []) (range_with_len 3 5) some)

-- those of linking
pub graph_alike : (rows : Rows) (image : List ℕ) → faults_in (1 ∷ 2 ∷ []) image ≡ [] → (faults_in (3 ∷ 4 ∷ 5 ∷ []) image ≡ [] → ⊥)
    → faults_by_rows rows image ≡ faults_in (3 ∷ 4 ∷ 5 ∷ []) image
graph_alike rows image form found =
    let some : 0 < length (faults_in (3 ∷ 4 ∷ 5 ∷ []) image) = not_empty (faults_in (3 ∷ 4 ∷ 5 ∷ []) image) found in
    all_early rows image (faults_in (3 ∷ 4 ∷ 5 ∷ []) image) some
    (skip_stages image (1 ∷ 2 ∷ []) (range_with_len 3 5) form ∙ some_in image (3 ∷ 4 ∷ 5 ∷ []) (6 ∷ 7 ∷ []) some)

-- `?` hands a refusal up as it is
pub handed_up : {X E : Type 0} (result : Result X E) (error : E) (Says : E → Type 0) → Says error → IsErrAnd result (λ up. up ≡ error) → IfErr result Says
handed_up (Ok value) error Says says handed = tt
handed_up (Err up) error Says says handed = subst Says (sym handed) says

-- what is found of a file
pub ruleset whole_verdict = (file_accepted, read_in_any_order, no_structure_fault, no_master_fault)
