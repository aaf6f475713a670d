-- The faults that are noted, page by page and stage by stage.
use Rattle.std.proofs.Common.{◌≡◌, ℕ, ◌+◌, ◌-◌, ◌≤◌, Bool, true, false, not, List, [], ◌∷◌, ◌++◌, length, Option, Some, None, arith, refl, sym, ◌∙◌, ap, subst}
use Rattle.std.proofs.Common.{append-nil, ◌==◌, ◌&&◌, ◌||◌, Err, option_to_list}
use Rattle.std.specs.List.{list_any}
use Rattle.std.specs.Result.{result_err}
use Rattle.std.proofs.lemmas.Bool.{eqb-true, ne_eqb}
use Rattle.std.proofs.lemmas.List.Folds.{list_any-append}
use Rattle.std.proofs.Math.Bool.{or-false}
use Rattle.bdb_faults.specs.Notes.{AreSame, Notes, NotesAll}
use Rattle.bdb_faults.specs.of_format.Terms.{File, Row, answer, by_page, fails_as, fault_at, fault_if, faults_in, file_row_code, first_row, fit_code}
use Rattle.bdb_faults.specs.of_format.Terms.{form_code as row_of_form, form_faults, form_row_code, head_faults, head_of, head_rows, is_anchor, is_owned_twice}
use Rattle.bdb_faults.specs.of_format.Terms.{is_reserve, is_shared_too_often, is_unowned, is_zero, or_else, ownership_faults, ownership_rows, page_bytes}
use Rattle.bdb_faults.specs.of_format.Terms.{reach_faults, reach_rows, reaches, reference_faults, reference_rows, refs, some_fails, stage_faults, tail_faults}
use Rattle.bdb_faults.specs.of_format.Terms.{tail_rows, ◌:?◌}
use Rattle.bdb_faults.specs.of_format.declared.rows.FileRow.{FileRow as FileRows}
use Rattle.bdb_faults.specs.of_format.declared.rows.FileRow.TheVariants.{Tail}
use Rattle.bdb_faults.specs.of_format.declared.rows.FormRow.{FormRow}
use Rattle.bdb_faults.specs.of_format.declared.rows.OwnershipRow.TheVariants.{NoOwner, TooMany}
use Rattle.bdb_faults.specs.of_format.declared.rows.ReachRow.TheVariants.{Unreached}
use Rattle.bdb_faults.specs.of_format.declared.rows.ReferenceRow.TheVariants.{OutOfRange, WrongKind, WrongLevel, WrongBack}
use Rattle.bdb_faults.specs.of_format.declared.rows.Row.{Row as FaultRow}
use Rattle.bdb_faults.specs.of_format.declared.rows.Row.TheVariants.{File as FileRow, Form, Ownership, Reach, Reference as ReferenceRow}
use Rattle.bdb_faults.proofs.SinkLemmas.{noted_all, notes_both, notes_more, notes_none, notes_one}
use Rattle.bdb_faults.specs.of_format.declared.kinds.Fault.{Fault}
use Rattle.bdb_faults.specs.of_format.declared.metadata.Head.{Head}
use Rattle.bdb_faults.specs.of_format.declared.references.Reference.{Reference}
use Rattle.bdb_faults.specs.of_format.Verdict.{holding}
use Rattle.bdb_faults.proofs.of_format.MemberLemmas.{first_member, no_member}
use Rattle.bdb_faults.proofs.of_format.VerdictLemmas.{or_else_none, or_else_nothing}
use Rattle.bdb_image.proofs.CodeLemmas.{code_of_answer}
use Rattle.bdb_image.specs.declared.fits.Misfits.{Misfits}
use Rattle.bdb_image.specs.Noted.{misfit_faults, misfits_of, more_misfits, page_faults}

-- Page by page.

-- those of one more page of a stage
pub page_noted : (before middle after : List Fault → Type 0) (stage from n : ℕ) (codes : ℕ → List ℕ) → from ≤ n
    → NotesAll before middle (by_page stage from (n - from) codes)
    → NotesAll middle after (page_faults stage n (codes n)) → NotesAll before after (by_page stage from (n + 1 - from) codes)
page_noted before middle after stage from n codes low first second =
    let next : n + 1 - from ≡ n - from + 1 = omega arith in
    subst (λ k. NotesAll before after (by_page stage from k codes)) (sym next)
    (notes_more before middle after (λ p. page_faults stage p (codes p)) from (n - from) n (omega arith) first second)

-- no page is passed yet
pub none_noted : (before : List Fault → Type 0) (stage from n : ℕ) (codes : ℕ → List ℕ) → n ≡ from
    → NotesAll before before (by_page stage from (n - from) codes)
none_noted before stage from n codes is =
    let none : n - from ≡ 0 = omega arith in subst (λ k. NotesAll before before (by_page stage from k codes)) (sym none) (notes_none before)

-- the faults of a row and of those below it
row_held : (row : FaultRow) (stage page code : ℕ) (holds : Bool) (rows : List (Row ℕ)) (rest : List Fault)
    → fault_at row page ≡ record { stage = stage; page = page; code = code } → rest ≡ page_faults stage page (holding rows)
    → fault_if row page holds ++ rest ≡ page_faults stage page (holding (code :? holds ∷ rows))
row_held row stage page code true rows rest is same = cc (is, same)
row_held row stage page code false rows rest is same = same

-- the faults of one row alone
row_alone : (row : FaultRow) (stage page code : ℕ) (holds : Bool) → fault_at row page ≡ record { stage = stage; page = page; code = code }
    → fault_if row page holds ≡ page_faults stage page (holding (code :? holds ∷ []))
row_alone row stage page code holds is = sym (append-nil (fault_if row page holds)) ∙ row_held row stage page code holds [] [] is refl

-- Stage 3.

any_more : (test : Reference → Bool) (before : List Reference) (reference : Reference) → (list_any test before || test reference)
    ≡ list_any test (before ++ (reference ∷ []))
any_more test before reference = sym (list_any-append test before (reference ∷ []) ∙ ap (λ b. list_any test before || b) (or-false (test reference)))

pub same_misfits : (a b c d e f g h : Bool) → a ≡ e → b ≡ f → c ≡ g → d ≡ h
    → ◌≡◌ {A = Misfits} (record { target = a; page_type = b; level = c; previous = d }) (record { target = e; page_type = f; level = g; previous = h })
same_misfits a b c d e f g h ae bf cg dh = cc

-- one more reference counts by its own code
pub one_more_misfit : (fit : Reference → Option ℕ) (before : List Reference) (reference : Reference)
    → more_misfits (misfits_of fit before) (fit reference) ≡ misfits_of fit (before ++ (reference ∷ []))
one_more_misfit fit before reference =
    same_misfits _ _ _ _ _ _ _ _
    (any_more (λ r. fails_as 1 (fit r)) before reference) (any_more (λ r. fails_as 2 (fit r)) before reference)
    (any_more (λ r. fails_as 3 (fit r)) before reference) (any_more (λ r. fails_as 4 (fit r)) before reference)

-- what is noted of the references of a page are its faults
pub misfits_noted : (before after : List Fault → Type 0) (file : File) (page : ℕ) (misfits : Misfits)
    → misfits ≡ misfits_of (fit_code file page) (refs file page)
    → Notes before after (misfit_faults misfits page) → NotesAll before after (page_faults 3 page (holding (reference_rows file page)))
misfits_noted before after file page misfits is noted =
    let a : Bool = some_fails file page 1 in
    let b : Bool = some_fails file page 2 in
    let c : Bool = some_fails file page 3 in
    let d : Bool = some_fails file page 4 in
    let same : misfit_faults (misfits_of (fit_code file page) (refs file page)) page ≡ page_faults 3 page (holding (reference_rows file page)) =
    row_held (ReferenceRow OutOfRange) 3 page 1 a (2 :? b ∷ 3 :? c ∷ 4 :? d ∷ [])
    (fault_if (ReferenceRow WrongKind) page b ++ (fault_if (ReferenceRow WrongLevel) page c ++ fault_if (ReferenceRow WrongBack) page d)) refl
    (row_held (ReferenceRow WrongKind) 3 page 2 b (3 :? c ∷ 4 :? d ∷ []) (fault_if (ReferenceRow WrongLevel) page c ++ fault_if (ReferenceRow WrongBack) page d)
    refl
    (row_held (ReferenceRow WrongLevel) 3 page 3 c (4 :? d ∷ []) (fault_if (ReferenceRow WrongBack) page d) refl
    (row_alone (ReferenceRow WrongBack) 3 page 4 d refl))) in
    subst (NotesAll before after) (ap (λ (m : Misfits). misfit_faults m page) is ∙ same) (notes_one before after (misfit_faults misfits page) noted)

-- all pages are passed
pub references_noted : (before after : List Fault → Type 0) (file : File) (n : ℕ) → n ≡ file.last + 1
    → NotesAll before after (by_page 3 0 (n - 0) (λ p. holding (reference_rows file p))) → NotesAll before after (reference_faults file)
unfolding reference_faults
references_noted before after file n all noted =
    let same : n - 0 ≡ file.last + 1 = omega arith in
    subst (λ k. NotesAll before after (by_page 3 0 k (λ p. holding (reference_rows file p)))) same noted

-- Stages 4 and 5, and pages above the last one.

-- one row at a page
pub row_noted : (before after : List Fault → Type 0) (row : FaultRow) (stage page code : ℕ) (holds : Bool)
    → fault_at row page ≡ record { stage = stage; page = page; code = code } → Notes before after (fault_if row page holds)
    → NotesAll before after (page_faults stage page (holding (code :? holds ∷ [])))
row_noted before after row stage page code holds is noted =
    subst (NotesAll before after) (row_alone row stage page code holds is) (notes_one before after (fault_if row page holds) noted)

-- two rows at a page
both_noted : (before middle after : List Fault → Type 0) (page : ℕ) (lacks many : Bool) → Notes before middle (fault_if (Ownership NoOwner) page lacks)
    → Notes middle after (fault_if (Ownership TooMany) page many) → NotesAll before after (page_faults 4 page (holding (1 :? lacks ∷ 2 :? many ∷ [])))
both_noted before middle after page lacks many first second =
    subst (NotesAll before after)
    (row_held (Ownership NoOwner) 4 page 1 lacks (2 :? many ∷ []) (fault_if (Ownership TooMany) page many) refl
    (row_alone (Ownership TooMany) 4 page 2 many refl))
    (notes_both before middle after (fault_if (Ownership NoOwner) page lacks) (fault_if (Ownership TooMany) page many) (notes_one before middle _ first)
    (notes_one middle after _ second))

pub owned_noted : (before middle after : List Fault → Type 0) (file : File) (page : ℕ) (lacks many : Bool)
    → lacks ≡ (not (is_anchor file page) && not (is_reserve file page) && is_unowned file page)
    → many ≡ (is_shared_too_often file page || is_owned_twice file page) → Notes before middle (fault_if (Ownership NoOwner) page lacks)
    → Notes middle after (fault_if (Ownership TooMany) page many) → NotesAll before after (page_faults 4 page (holding (ownership_rows file page)))
owned_noted before middle after file page lacks many lack is_many first second =
    subst (λ b. NotesAll before after (page_faults 4 page (holding (1 :? b ∷ 2 :? (is_shared_too_often file page || is_owned_twice file page) ∷ [])))) lack
    (subst (λ b. NotesAll before after (page_faults 4 page (holding (1 :? lacks ∷ 2 :? b ∷ [])))) is_many
    (both_noted before middle after page lacks many first second))

pub owners_noted : (before after : List Fault → Type 0) (file : File) (n : ℕ) → n ≡ file.last + 1
    → NotesAll before after (by_page 4 1 (n - 1) (λ p. holding (ownership_rows file p))) → NotesAll before after (ownership_faults file)
unfolding ownership_faults
owners_noted before after file n all noted =
    let same : n - 1 ≡ file.last = omega arith in
    subst (λ k. NotesAll before after (by_page 4 1 k (λ p. holding (ownership_rows file p)))) same noted

pub reached_noted : (before after : List Fault → Type 0) (file : File) (page : ℕ) (reached : Bool) → reached ≡ reaches file page
    → Notes before after (fault_if (Reach Unreached) page (not reached)) → NotesAll before after (page_faults 5 page (holding (reach_rows file page)))
reached_noted before after file page reached is noted =
    subst (λ b. NotesAll before after (page_faults 5 page (holding (1 :? not b ∷ [])))) is
    (row_noted before after (Reach Unreached) 5 page 1 (not reached) refl noted)

pub reach_noted : (before after : List Fault → Type 0) (file : File) (n : ℕ) → n ≡ file.last + 1
    → NotesAll before after (by_page 5 1 (n - 1) (λ p. holding (reach_rows file p))) → NotesAll before after (reach_faults file)
unfolding reach_faults
reach_noted before after file n all noted =
    let same : n - 1 ≡ file.last = omega arith in
    subst (λ k. NotesAll before after (by_page 5 1 k (λ p. holding (reach_rows file p)))) same noted

pub zero_noted : (before after : List Fault → Type 0) (image : List ℕ) (head : Head) (page : ℕ) (zeros : Bool) (bytes : List ℕ)
    → zeros ≡ is_zero bytes → bytes ≡ page_bytes head image page → Notes before after (fault_if (FileRow Tail) page (not zeros))
    → NotesAll before after (page_faults 1 page (holding (tail_rows head image page)))
zero_noted before after image head page zeros bytes is bytes_are noted =
    subst (λ b. NotesAll before after (page_faults 1 page (holding (12 :? not b ∷ [])))) (is ∙ ap is_zero bytes_are)
    (row_noted before after (FileRow Tail) 1 page 12 (not zeros) refl noted)

pub tail_noted : (before after : List Fault → Type 0) (image : List ℕ) (head : Head) (n : ℕ) → head ≡ head_of image → n ≡ head.pages
    → NotesAll before after (by_page 1 (head.last + 1) (n - (head.last + 1)) (λ p. holding (tail_rows head image p)))
    → NotesAll before after (tail_faults image)
unfolding tail_faults
tail_noted before after image head n is all noted =
    subst (λ (h : Head). NotesAll before after (by_page 1 (h.last + 1) (h.pages - (h.last + 1)) (λ p. holding (tail_rows h image p)))) is
    (subst (λ k. NotesAll before after (by_page 1 (head.last + 1) (k - (head.last + 1)) (λ p. holding (tail_rows head image p)))) all noted)

-- Stage 2.

pub form_noted : (before after : List Fault → Type 0) (page : ℕ) (code : Option ℕ) (row : FormRow) → Some (form_row_code row) ≡ code
    → Notes before after (fault_at (Form row) page ∷ []) → NotesAll before after (page_faults 2 page (option_to_list code))
form_noted before after page None row is noted = absurd cc
form_noted before after page (Some code) row is noted =
    let same : form_row_code row ≡ code = cc in
    subst (λ c. NotesAll before after (page_faults 2 page (c ∷ []))) same (notes_one before after (fault_at (Form row) page ∷ []) noted)

pub form_passed : (before : List Fault → Type 0) (page : ℕ) (code : Option ℕ) → None ≡ code → NotesAll before before (page_faults 2 page (option_to_list code))
form_passed before page None is = notes_none before
form_passed before page (Some code) is = absurd cc

pub forms_noted : (before after : List Fault → Type 0) (image : List ℕ) (head : Head) (n : ℕ) → head ≡ head_of image → n ≡ head.last + 1
    → NotesAll before after (by_page 2 0 (n - 0) (λ p. option_to_list (row_of_form head p (page_bytes head image p))))
    → NotesAll before after (form_faults image)
unfolding form_faults
forms_noted before after image head n is all noted =
    let same : n - 0 ≡ head.last + 1 = omega arith in
    subst (λ (h : Head). NotesAll before after (by_page 2 0 (h.last + 1) (λ p. option_to_list (row_of_form h p (page_bytes h image p))))) is
    (subst (λ k. NotesAll before after (by_page 2 0 k (λ p. option_to_list (row_of_form head p (page_bytes head image p))))) same noted)

-- Page 0.

head_alone : (code : Option ℕ) (row : FileRows) → Some (file_row_code row) ≡ code → by_page 1 0 1 (λ p. option_to_list code) ≡ fault_at (FileRow row) 0 ∷ []
head_alone None row is = absurd cc
head_alone (Some code) row is = let same : code ≡ file_row_code row = cc in ap (λ c. page_faults 1 0 (c ∷ [])) same

-- page 0 is refused: its fault is the only one
pub head_refused : (image : List ℕ) (row : FileRows) → Err (file_row_code row) ≡ answer (head_rows image) (head_of image)
    → faults_in (1 ∷ 2 ∷ []) image ≡ fault_at (FileRow row) 0 ∷ []
unfolding faults_in head_faults
head_refused image row same =
    let first : Some (file_row_code row) ≡ first_row (head_rows image) = ap result_err same ∙ code_of_answer (head_rows image) (head_of image) in
    ap (λ (faults : List Fault). or_else (or_else faults (λ _. tail_faults image)) (λ _. faults_in (2 ∷ []) image))
    (head_alone (first_row (head_rows image)) row first)

-- page 0 is accepted: stage 1 is what is noted of the pages above the last one
pub head_passed : (image : List ℕ) → first_row (head_rows image) ≡ None → faults_in (1 ∷ 2 ∷ []) image ≡ or_else (tail_faults image) (λ _. form_faults image)
unfolding faults_in head_faults
head_passed image none =
    ap (λ (code : Option ℕ). or_else (or_else (by_page 1 0 1 (λ p. option_to_list code)) (λ _. tail_faults image)) (λ _. or_else (form_faults image) (λ _. [])))
    none
    ∙ ap (λ (forms : List Fault). or_else (tail_faults image) (λ _. forms)) (or_else_nothing (form_faults image))

-- Stage by stage.

-- what a sink without faults answers
abbrev pub TellsEmpty : Bool → (List Fault → Type 0) → Type 0
TellsEmpty empty has = (noted : List Fault) → has noted → empty ≡ (length noted == 0)

same_empty : (noted faults : List Fault) → AreSame noted faults → (length noted == 0) ≡ (length faults == 0)
same_empty [] [] same = refl
same_empty [] (fault ∷ faults) same = absurd (no_member [] fault refl ((same fault).1 (first_member fault faults)))
same_empty (fault ∷ noted) [] same = absurd (no_member [] fault refl ((same fault).0 (first_member fault noted)))
same_empty (first ∷ noted) (fault ∷ faults) same = ne_eqb (length (first ∷ noted)) 0 (omega arith) ∙ sym (ne_eqb (length (fault ∷ faults)) 0 (omega arith))

nothing_in : (faults : List Fault) → (length faults == 0) ≡ true → faults ≡ []
nothing_in [] none = refl
nothing_in (fault ∷ faults) none = absurd (let zero : length (fault ∷ faults) ≡ 0 = eqb-true _ _ none in omega arith)

module _ (before middle : List Fault → Type 0) (faults : List Fault) (empty : Bool) (new : before []) (first : NotesAll before middle faults)
    (tells : TellsEmpty empty middle) where
  empty_is : empty ≡ (length faults == 0)
  empty_is = let it = noted_all before middle faults new first in tells it.0 it.1 ∙ same_empty it.0 faults it.2

  -- the stage has no faults
  pub none_there : empty ≡ true → faults ≡ []
  none_there is = nothing_in faults (sym empty_is ∙ is)

  -- so the next stage counts
  pub next_noted : (after : List Fault → Type 0) (others : List Fault) → empty ≡ true → NotesAll middle after others
      → NotesAll before after (or_else faults (λ _. others))
  next_noted after others is second =
      subst (λ fs. NotesAll before after (or_else fs (λ _. others))) (sym (none_there is))
      (notes_both before middle after [] others (subst (NotesAll before middle) (none_there is) first) second)

  -- the stage has faults, which count alone
  pub alone_noted : (others : List Fault) → empty ≡ false → NotesAll before middle (or_else faults (λ _. others))
  alone_noted others is = some faults (sym empty_is ∙ is) first
    where
      some : (fs : List Fault) → (length fs == 0) ≡ false → NotesAll before middle fs → NotesAll before middle (or_else fs (λ _. others))
      some [] is all = absurd cc
      some (fault ∷ fs) is all = all

  -- the same for a stage of a list of them
  pub next_stage : (after : List Fault → Type 0) (image : List ℕ) (stage : ℕ) (stages : List ℕ) → stage_faults image stage ≡ faults → empty ≡ true
      → NotesAll middle after (faults_in stages image) → NotesAll before after (faults_in (stage ∷ stages) image)
  unfolding faults_in
  next_stage after image stage stages same is second =
      subst (λ fs. NotesAll before after (or_else fs (λ _. faults_in stages image))) (sym same) (next_noted after (faults_in stages image) is second)

  pub stage_alone : (image : List ℕ) (stage : ℕ) (stages : List ℕ) → stage_faults image stage ≡ faults → empty ≡ false
      → NotesAll before middle (faults_in (stage ∷ stages) image)
  unfolding faults_in
  stage_alone image stage stages same is =
      subst (λ fs. NotesAll before middle (or_else fs (λ _. faults_in stages image))) (sym same) (alone_noted (faults_in stages image) is)

  -- the stage has faults
  pub stage_there : (image : List ℕ) (stage : ℕ) (stages : List ℕ) → stage_faults image stage ≡ faults → empty ≡ false → faults_in (stage ∷ stages) image ≡ []
      → ⊥
  unfolding faults_in
  stage_there image stage stages same is none =
      let nothing : faults ≡ [] = sym same ∙ (or_else_none (stage_faults image stage) (faults_in stages image) none).0 in
      let e : false ≡ true = sym is ∙ (empty_is ∙ ap (λ (fs : List Fault). length fs == 0) nothing) in
      cc

-- the last of some stages
pub last_stage : (image : List ℕ) (stage : ℕ) → faults_in (stage ∷ []) image ≡ stage_faults image stage
unfolding faults_in
last_stage image stage = or_else_nothing (stage_faults image stage)
