-- The faults of a file, stage by stage, and the verdict. Source: docs/FORMAT.md, "Faults".
use Rattle.std.specs.Prelude.{◌≡◌, ◌⊎◌, ℕ, IsTrue, ◌+◌, ◌-◌, ◌<◌, ◌≤◌, ◌==◌, ◌&&◌, ◌||◌, not, if◌then◌else◌, Bool, false, List, [], ◌∷◌, ◌++◌, length, Option}
use Rattle.std.specs.Prelude.{Some, None}
use Rattle.std.specs.List.{Contains, list_any, range_with_len}
use Rattle.std.specs.Option.{option_map, option_to_list}
use Rattle.bdb_format.specs.declared.kinds.CheckError.{CheckError}
use Rattle.bdb_format.specs.declared.kinds.CheckError.TheVariants.{Fault as FaultError, Memory as MemoryError}
use Rattle.bdb_format.specs.declared.kinds.Fault.{Fault}
use Rattle.bdb_format.specs.declared.kinds.Unsupported.{Unsupported}
use Rattle.bdb_format.specs.declared.kinds.Verdict.{Verdict}
use Rattle.bdb_format.specs.declared.kinds.Verdict.TheVariants.{Fault as FaultVerdict, Unsupported as UnsupportedVerdict}
use Rattle.bdb_format.specs.declared.metadata.Head.{Head}
use Rattle.bdb_format.specs.declared.metadata.MetaFault.{MetaFault}
use Rattle.bdb_format.specs.declared.metadata.MetaFault.TheVariants.{Fault as CodeFault, Unsupported as NamedCase}
use Rattle.bdb_format.specs.Table.{Row, ◌:?◌, first_row}
pub use Rattle.bdb_format.specs.ByPage.{holding, by_page}
use Rattle.bdb_format.specs.Reading.{is_zero}
use Rattle.bdb_format.specs.Rows.{form_code}
use Rattle.bdb_format.specs.HeadOf.{head_of, head_rows, head_fault, form_fault}
use Rattle.bdb_format.specs.File.{File, file_of, page_bytes}
use Rattle.bdb_format.specs.References.{refs, fit_code}
use Rattle.bdb_format.specs.Graph.{OneRole, is_anchor, is_reserve, is_unowned, is_shared_too_often, is_owned_twice, owners, reaches}
use Rattle.bdb_format.specs.Chains.{chain_rows}
use Rattle.bdb_format.specs.Leaves.{tree_rows}
use Rattle.bdb_format.specs.Master.{master_rows}
use Rattle.bdb_format.specs.ContentRows.{contents_rows}

-- Stage 1: page 0, and where it has no fault the pages above the last one, which are zero pages.

abbrev pub tail_rows : Head → List ℕ → ℕ → List (Row ℕ)
tail_rows head image p = 12 :? not (is_zero (page_bytes head image p)) ∷ []

unfoldable pub head_faults : List ℕ → List Fault
head_faults image = by_page 1 0 1 (λ p. option_to_list (first_row (head_rows image)))

unfoldable pub tail_faults : List ℕ → List Fault
tail_faults image =
    let head : Head = head_of image in
    by_page 1 (head.last + 1) (head.pages - (head.last + 1)) (λ p. holding (tail_rows head image p))

-- Stage 2: each page by itself.

unfoldable pub form_faults : List ℕ → List Fault
form_faults image =
    let head : Head = head_of image in
    by_page 2 0 (head.last + 1) (λ p. option_to_list (form_code head p (page_bytes head image p)))

-- Stage 3: each reference fits.

abbrev pub fails_as : ℕ → Option ℕ → Bool
fails_as code None = false
fails_as code (Some other) = other == code

abbrev pub some_fails : File → ℕ → ℕ → Bool
some_fails file p code = list_any (λ reference. fails_as code (fit_code file p reference)) (refs file p)

abbrev pub reference_rows : File → ℕ → List (Row ℕ)
reference_rows file p = 1 :? some_fails file p 1 ∷ 2 :? some_fails file p 2 ∷ 3 :? some_fails file p 3 ∷ 4 :? some_fails file p 4 ∷ []

unfoldable pub reference_faults : File → List Fault
reference_faults file = by_page 3 0 (file.last + 1) (λ p. holding (reference_rows file p))

-- Stage 4: each page from 1 on has an owner, and no more than it may have.

abbrev pub ownership_rows : File → ℕ → List (Row ℕ)
ownership_rows file p =
    1 :? (not (is_anchor file p) && not (is_reserve file p) && is_unowned file p)
    ∷ 2 :? (is_shared_too_often file p || is_owned_twice file p)
    ∷ []

unfoldable pub ownership_faults : File → List Fault
ownership_faults file = by_page 4 1 file.last (λ p. holding (ownership_rows file p))

-- Stage 5: each page from 1 on reaches.

abbrev pub reach_rows : File → ℕ → List (Row ℕ)
reach_rows file p = 1 :? not (reaches file p) ∷ []

unfoldable pub reach_faults : File → List Fault
reach_faults file = by_page 5 1 file.last (λ p. holding (reach_rows file p))

-- Stage 6: each chain has the length that is told of it, and each leaf of a tree has its kind and its neighbours.

abbrev pub structure_rows : File → ℕ → List (Row ℕ)
structure_rows file p = chain_rows file p ++ tree_rows file p

unfoldable pub structure_faults : File → List Fault
structure_faults file = by_page 6 0 (file.last + 1) (λ p. holding (structure_rows file p))

-- those of chains alone, and those of leaves alone
unfoldable pub chain_faults : File → List Fault
chain_faults file = by_page 6 0 (file.last + 1) (λ p. holding (chain_rows file p))

unfoldable pub tree_faults : File → List Fault
tree_faults file = by_page 6 0 (file.last + 1) (λ p. holding (tree_rows file p))

-- Stage 7: a master names each other metadata page once, and nothing else.

unfoldable pub master_faults : File → List Fault
master_faults file = by_page 7 0 (file.last + 1) (λ p. holding (master_rows file p))

-- Stage 8: what the databases hold keeps their rules.

unfoldable pub contents_faults : File → List Fault
contents_faults file = by_page 8 0 (file.last + 1) (λ p. holding (contents_rows file p))

-- the first list, unless it's empty; the second is looked at only then
abbrev pub or_else : List Fault → (Unit {0} → List Fault) → List Fault
or_else [] others = others tt
or_else (fault ∷ faults) others = fault ∷ faults

-- stage 1, whole
abbrev pub file_faults : List ℕ → List Fault
file_faults image = or_else (head_faults image) (λ _. tail_faults image)

-- what a stage finds in the file of an image
abbrev pub within_file : (File → List Fault) → List ℕ → List Fault
within_file faults image = faults (file_of image)

-- what each stage finds in an image
abbrev pub faults_by : ℕ → List ℕ → List Fault
faults_by stage =
    if stage == 1 then file_faults
    else (if stage == 2 then form_faults
    else (if stage == 3 then within_file reference_faults
    else (if stage == 4 then within_file ownership_faults
    else (if stage == 5 then within_file reach_faults
    else (if stage == 6 then within_file structure_faults
    else (if stage == 7 then within_file master_faults
    else (if stage == 8 then within_file contents_faults
    else (λ image. []))))))))

-- the faults of one stage, in a file that the earlier stages accept
abbrev pub stage_faults : List ℕ → ℕ → List Fault
stage_faults image stage = faults_by stage image

-- the row with this stage and code holds at this page, in a file where no row of an earlier stage holds
pub record Holds (image : List ℕ) (stage page code : ℕ) : Type 0 where
  pub earlier : (s : ℕ) → s < stage → stage_faults image s ≡ []
  pub row : Contains (stage_faults image stage) (record { stage = stage; page = page; code = code })

-- the faults of the first of these stages that has any
unfoldable pub faults_in : List ℕ → List ℕ → List Fault
faults_in [] image = []
faults_in (stage ∷ stages) image = or_else (stage_faults image stage) (λ _. faults_in stages image)

-- the faults of the first stage that has any
unfoldable pub faults_of : List ℕ → List Fault
faults_of image = faults_in (range_with_len 1 8) image

-- the first of these faults
abbrev pub first_fault : List Fault → Option Fault
first_fault [] = None
first_fault (fault ∷ faults) = Some fault

-- what a file is that isn't sound: faulty, by its first fault, or not supported, with the page of that fault
pub data Judgement : Type 0 where
  Faulty : Fault → Judgement
  LeftOut : Unsupported → ℕ → Judgement

-- the judgement on a code of a stage, or on the case that it names
abbrev pub judged : ℕ → ℕ → MetaFault → Judgement
judged stage page (CodeFault code) = Faulty (record { stage = stage; page = page; code = code })
judged stage page (NamedCase name) = LeftOut name page

-- a fault of stages 1 and 2 may be a case that isn't supported; a later one stands as it is
abbrev pub judgement_of : Fault → Judgement
judgement_of fault =
    if fault.stage == 1 then judged 1 fault.page (head_fault fault.code)
    else (if fault.stage == 2 then judged 2 fault.page (form_fault fault.code) else Faulty fault)

-- the judgement on the first of these faults
abbrev pub first_judgement : List Fault → Option Judgement
first_judgement faults = option_map judgement_of (first_fault faults)

-- the verdict on these stages: none where no row of theirs holds, else the judgement on the first fault
abbrev pub verdict_in : List ℕ → List ℕ → Option Judgement
verdict_in stages image = first_judgement (faults_in stages image)

-- the verdict on all stages
abbrev pub verdict_of : List ℕ → Option Judgement
verdict_of image = first_judgement (faults_of image)

-- What a call answers.

-- the verdict that a call tells of a file that isn't sound
abbrev pub as_verdict : Judgement → Verdict
as_verdict (Faulty fault) = FaultVerdict fault
as_verdict (LeftOut name page) = UnsupportedVerdict name page

-- a refusal is the first of these faults, or lack of memory
abbrev pub IsFirstOf : List Fault → CheckError → Type 0
IsFirstOf faults (FaultError fault) = first_fault faults ≡ Some fault
IsFirstOf faults MemoryError = Unit {0}

-- Laws that say in plain words what the computed verdict is.

-- sound exactly where no row holds
abbrev pub SoundWhereNoRowHolds : Type 0
SoundWhereNoRowHolds =
    (image : List ℕ) → (faults_of image ≡ [] → (stage page code : ℕ) → Holds image stage page code → ⊥)
    × (((stage page code : ℕ) → Holds image stage page code → ⊥) → faults_of image ≡ [])

-- a row holds there, none in an earlier stage, and none in its stage at a lesser page, or there with a lesser code
pub record IsLeastFault (image : List ℕ) (fault : Fault) : Type 0 where
  pub holds : Holds image fault.stage fault.page fault.code
  pub first : (stage page code : ℕ) → Holds image stage page code → stage ≡ fault.stage
  pub least : (page code : ℕ) → Holds image fault.stage page code → (fault.page < page) ⊎ ((fault.page ≡ page) × (fault.code ≤ code))

abbrev pub FirstIsLeast : Type 0
FirstIsLeast = (image : List ℕ) (fault : Fault) (faults : List Fault) → faults_of image ≡ fault ∷ faults → IsLeastFault image fault

-- once references fit, a page has at most one of the roles anchor, reserve and owned page
pub record RolesExclude (file : File) (p : ℕ) : Type 0 where
  pub anchor_reserve : IsTrue (is_anchor file p) → IsTrue (is_reserve file p) → ⊥
  pub anchor_owned : IsTrue (is_anchor file p) → 0 < length (owners file p) → ⊥
  pub reserve_owned : IsTrue (is_reserve file p) → 0 < length (owners file p) → ⊥

abbrev pub RolesExcludeEachOther : Type 0
RolesExcludeEachOther =
    (image : List ℕ) (p : ℕ) → faults_in (1 ∷ 2 ∷ 3 ∷ []) image ≡ [] → 1 ≤ p → p ≤ (file_of image).last → RolesExclude (file_of image) p

-- no row of stages 4 and 5 holds exactly where each page from 1 on has a role and reaches
abbrev pub EachPageHasOneRole : Type 0
EachPageHasOneRole =
    (file : File) → (ownership_faults file ≡ [] → reach_faults file ≡ [] → (p : ℕ) → 1 ≤ p → p ≤ file.last → OneRole file p)
    × (reference_faults file ≡ [] → ((p : ℕ) → 1 ≤ p → p ≤ file.last → OneRole file p) → (ownership_faults file ≡ []) × (reach_faults file ≡ []))
