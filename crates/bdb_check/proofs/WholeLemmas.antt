-- The faults of stages 6 to 8, by those of each.
use Rattle.std.proofs.Common.{◌≡◌, ℕ, Bool, true, false, List, [], ◌∷◌, ◌++◌, length, arith, refl, sym, ◌∙◌, ap, subst, ◌==◌}
use Rattle.bdb_recno.specs.of_format.declared.kinds.Fault.{Fault}
use Rattle.bdb_recno.specs.of_format.Terms.{faults_in, file_of, master_faults, or_else, structure_faults}
use Rattle.bdb_recno.proofs.of_format.MemberLemmas.{is_empty, no_member}
use Rattle.bdb_recno.proofs.of_format.VerdictLemmas.{none_within, or_else_none, skip_stage}
use Rattle.bdb_recno.specs.of_faults.Notes.{HasJust, NotesAll}
use Rattle.bdb_recno.proofs.of_faults.SinkLemmas.{noted_all, notes_both}
use Rattle.bdb_any_order.specs.AnyOrder.{contents_by, stages_by}
use Rattle.bdb_any_order.specs.declared.rows.Rows.{Rows}
use Rattle.bdb_master.proofs.NotingLemmas.{none_noted, some_noted}

-- each of the stages, where none of them has faults

pub no_structure_fault : (rows : Rows) (image : List ℕ) → stages_by rows (6 ∷ 7 ∷ []) image ≡ [] → structure_faults (file_of image) ≡ []
no_structure_fault rows image none =
    none_within 6 2 image 6 (or_else_none (faults_in (6 ∷ 7 ∷ []) image) (contents_by rows (file_of image)) none).0 (omega arith) (omega arith)

pub no_master_fault : (rows : Rows) (image : List ℕ) → stages_by rows (6 ∷ 7 ∷ []) image ≡ [] → master_faults (file_of image) ≡ []
no_master_fault rows image none =
    none_within 6 2 image 7 (or_else_none (faults_in (6 ∷ 7 ∷ []) image) (contents_by rows (file_of image)) none).0 (omega arith) (omega arith)

-- Which stage is the first that has any.

or_else_some : (faults more others : List Fault) → (faults ≡ [] → ⊥) → or_else (or_else faults (λ _. more)) (λ _. others) ≡ faults
or_else_some [] more others some = absurd (some refl)
or_else_some (fault ∷ faults) more others some = refl

-- the faults of stage 6, where it has any
structure_stops : (rows : Rows) (image : List ℕ) → (structure_faults (file_of image) ≡ [] → ⊥)
    → stages_by rows (6 ∷ 7 ∷ []) image ≡ structure_faults (file_of image)
unfolding faults_in
structure_stops rows image some =
    or_else_some (structure_faults (file_of image)) (faults_in (7 ∷ []) image) (contents_by rows (file_of image)) some

-- those of stage 7, where it has any
master_stops : (rows : Rows) (image : List ℕ) → structure_faults (file_of image) ≡ [] → (master_faults (file_of image) ≡ [] → ⊥)
    → stages_by rows (6 ∷ 7 ∷ []) image ≡ master_faults (file_of image)
unfolding faults_in
master_stops rows image structure some =
    ap (λ fs. or_else fs (λ _. contents_by rows (file_of image))) (skip_stage image 6 (7 ∷ []) structure)
    ∙ or_else_some (master_faults (file_of image)) [] (contents_by rows (file_of image)) some

-- those of stage 8 that count, where none of the others has any
contents_last : (rows : Rows) (image : List ℕ) → structure_faults (file_of image) ≡ [] → master_faults (file_of image) ≡ []
    → stages_by rows (6 ∷ 7 ∷ []) image ≡ contents_by rows (file_of image)
unfolding faults_in
contents_last rows image structure master =
    ap (λ fs. or_else fs (λ _. contents_by rows (file_of image))) (skip_stage image 6 (7 ∷ []) structure ∙ skip_stage image 7 [] master)

-- What is noted of the first of them that has any.

-- a sink says whether anything was noted
abbrev Says : (List Fault → Type 0) → Bool → Type 0
Says has empty = (noted : List Fault) → has noted → empty ≡ (length noted == 0)

module _ (rows : Rows) (image : List ℕ) (before first : List Fault → Type 0) (start : before [])
    (structure : NotesAll before first (structure_faults (file_of image))) where
  pub no_structure_noted : (empty : Bool) → empty ≡ true → Says first empty → structure_faults (file_of image) ≡ []
  no_structure_noted empty is says =
      none_noted before first (structure_faults (file_of image)) start structure (λ noted at. sym is ∙ says noted at)

  pub structure_whole : (empty : Bool) → empty ≡ false → Says first empty → HasJust first (stages_by rows (6 ∷ 7 ∷ []) image)
  structure_whole empty is says =
      subst (HasJust first)
      (sym (structure_stops rows image (some_noted before first (structure_faults (file_of image)) start structure (λ noted at. sym is ∙ says noted at))))
      (noted_all before first (structure_faults (file_of image)) start structure)

  pub not_all_none : (empty : Bool) → empty ≡ false → Says first empty → stages_by rows (6 ∷ 7 ∷ []) image ≡ [] → ⊥
  not_all_none empty is says none =
      some_noted before first (structure_faults (file_of image)) start structure (λ noted at. sym is ∙ says noted at) (no_structure_fault rows image none)

  -- where stage 6 has none, the next one is noted as if it were the first
  module _ (second : List Fault → Type 0) (none : structure_faults (file_of image) ≡ []) (master : NotesAll first second (master_faults (file_of image))) where
    master_alone : NotesAll before second (master_faults (file_of image))
    master_alone =
        subst (λ fs. NotesAll before second (fs ++ master_faults (file_of image))) none
        (notes_both before first second (structure_faults (file_of image)) (master_faults (file_of image)) structure master)

    pub master_whole : (empty : Bool) → empty ≡ false → Says second empty → HasJust second (stages_by rows (6 ∷ 7 ∷ []) image)
    master_whole empty is says =
        subst (HasJust second)
        (sym (master_stops rows image none (some_noted before second (master_faults (file_of image)) start master_alone (λ noted at. sym is ∙ says noted at))))
        (noted_all before second (master_faults (file_of image)) start master_alone)

    no_master : (empty : Bool) → empty ≡ true → Says second empty → master_faults (file_of image) ≡ []
    no_master empty is says = none_noted before second (master_faults (file_of image)) start master_alone (λ noted at. sym is ∙ says noted at)

    -- nothing was noted so far
    pub none_so_far : (empty : Bool) → empty ≡ true → Says second empty → second []
    none_so_far empty is says =
        let it = noted_all before second (master_faults (file_of image)) start master_alone in
        subst second (is_empty it.0 (λ fault at. no_member (master_faults (file_of image)) fault (no_master empty is says) ((it.2 fault).0 at))) it.1

    pub contents_whole : (after : List Fault → Type 0) (empty : Bool) → empty ≡ true → Says second empty
        → HasJust after (contents_by rows (file_of image)) → HasJust after (stages_by rows (6 ∷ 7 ∷ []) image)
    contents_whole after empty is says contents =
        subst (HasJust after) (sym (contents_last rows image none (no_master empty is says))) contents
