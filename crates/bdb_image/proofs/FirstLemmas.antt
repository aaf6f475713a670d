-- What a formed image says of its pages.
use Rattle.std.proofs.Common.{◌≡◌, ℕ, ◌+◌, ◌^◌, ◌<◌, ◌≤◌, true, false, cond, List, [], ◌∷◌, arith, refl, Some, None, Result, Ok, Err, option_to_list}
use Rattle.bdb_faults.specs.of_format.declared.metadata.Head.{Head}
use Rattle.bdb_faults.specs.of_format.Terms.{Row, answer, faults_in, first_row, form_code, form_faults, head_faults, head_of, head_rows, page_bytes}
use Rattle.bdb_faults.specs.of_format.Terms.{tail_faults}
use Rattle.bdb_faults.proofs.of_format.VerdictLemmas.{no_code, no_codes_at, none_within, or_else_none}
use Rattle.bdb_faults.proofs.of_format.FileLemmas.{last_page}
use Rattle.bdb_image.proofs.FormedLemmas.{IsPaged, accepted_paged}
use Rattle.bdb_image.specs.Formed.{IsAccepted, IsFormed}

-- an answer that is a value: no row holds
pub answer_is_value : {T : Type 0} (rows : List (Row ℕ)) (value found : T) → Ok found ≡ answer rows value → (found ≡ value) × (first_row rows ≡ None)
answer_is_value [] value found same = (cc, refl)
answer_is_value {T = T} (row ∷ rows) value found same =
    elim row.holds as (λ b. ◌≡◌ {A = Result T ℕ} (Ok found) (cond b (Err row.code) (answer rows value))
    → (found ≡ value) × (cond b (Some row.code) (first_row rows) ≡ None)) [
      | true ↦ λ is. absurd cc
      | false ↦ λ is. answer_is_value rows value found is
    ] same

no_head_fault : (image : List ℕ) → faults_in (1 ∷ 2 ∷ []) image ≡ [] → first_row (head_rows image) ≡ None
unfolding head_faults
no_head_fault image none =
    no_code (first_row (head_rows image))
    (no_codes_at 1 0 1 0 (λ p. option_to_list (first_row (head_rows image)))
    (or_else_none (head_faults image) (tail_faults image) (none_within 1 2 image 1 none (omega arith) (omega arith))).0
    (omega arith) (omega arith))

-- page 0 of a formed image is accepted
pub formed_accepted : (image : List ℕ) (head : Head) → IsFormed image head → IsAccepted image head
formed_accepted image head is = record { size = is.size; head_is = is.head_is; accepted = no_head_fault image is.form }

-- the last page of a formed image is there
pub formed_last : (image : List ℕ) (head : Head) → IsFormed image head → head.last < head.pages
formed_last image head is = (accepted_paged image head (formed_accepted image head is)).last

-- a formed image has few pages
pub formed_few : (image : List ℕ) (head : Head) → IsFormed image head → head.last < 2 ^ 21
formed_few image head is =
    let paged : IsPaged image head = accepted_paged image head (formed_accepted image head is) in
    omega (arith, paged.last, paged.few)

-- a page of a formed image has no fault of form
pub formed_page : (image : List ℕ) (number : ℕ) → faults_in (1 ∷ 2 ∷ []) image ≡ [] → number ≤ (head_of image).last
    → form_code (head_of image) number (page_bytes (head_of image) image number) ≡ None
unfolding form_faults
formed_page image number none low =
    no_code _
    (no_codes_at 2 0 ((head_of image).last + 1) number (λ p. option_to_list (form_code (head_of image) p (page_bytes (head_of image) image p)))
    (none_within 1 2 image 2 none (omega arith) (omega arith)) (omega arith) (omega arith))

-- what pages of sound form are
pub ruleset formed_pages = (formed_page, formed_accepted, formed_last, formed_few, last_page)
