-- What is answered.
use Rattle.std.proofs.Common.{◌≡◌, ℕ, Bool, true, false, List, Option, Some, None, Result, Ok, Err, arith, refl, sym, ◌∙◌, ap, subst, inl, inr}
use Rattle.std.specs.Prelude.{◌⊎◌, IfErr, IfOk, IsTrue, OnOk, if◌then◌else◌, nat_lt}
use Rattle.std.proofs.lemmas.Bool.{lt-ltb, ltb-true}
use Rattle.bdb_model.specs.of_format.Terms.{is_page_size}
use Rattle.bdb_model.specs.of_text_format.declared.sections.Section.{Section}
use Rattle.bdb_mkfile.specs.of_settle.declared.load_error.LoadError.{LoadError}
use Rattle.bdb_mkfile.specs.of_settle.declared.load_error.LoadError.TheVariants.{TooLarge as TooLargeImage, Memory as MemoryForIt}
use Rattle.bdb_mkfile.specs.of_settle.LoadErrors.{load_error}
use Rattle.bdb_mkfile.specs.Builds.{Builds, image_size}
use Rattle.bdb_mkfile.specs.Loading.{AreLoadable, IsLoadRefusal, IsLoadRefusalBy, loading_error, or_else, size_error}
use Rattle.bdb_rescue.specs.of_survey.declared.guess.Guess.{Guess}
use Rattle.bdb_rescue.specs.Kept.{Reading, file_in}
use Rattle.bdb_repair.specs.declared.error.RepairError.TheVariants.{TooLarge}
use Rattle.bdb_model.specs.declared.shape.Shape.{Shape}
use Rattle.bdb_repair.specs.Room.{least_room}
use Rattle.bdb_repair.specs.Parts.{repair_sections}
use Rattle.bdb_repair.specs.Repairs.{IsRepaired, may_come, repair_answer, repair_refusal}
use Rattle.bdb_repair.proofs.FileRoomLemmas.{pairs_take_room}
use Rattle.bdb_repair.proofs.PartLemmas.{parts_are_loadable, parts_have_no_errors}

-- how an image was read: by the guess that was chosen
pub record IsReadBy (found : Option Guess) (image : List ℕ) (reading : Reading) : Type 0 where
  pub guess : found ≡ Some reading.guess
  pub image_is : reading.image ≡ image
  pub legal : is_page_size reading.guess.page_size ≡ true

-- the sections of what was read
abbrev pub sections_read : Option Shape → Reading → List Section
sections_read shape reading = repair_sections shape reading.guess reading.image

-- it is so that the image would be too large
too_large_so : (max : ℕ) (shape : Option Shape) (found : Option Guess) (image : List ℕ) (reading : Reading) → IsReadBy found image reading
    → nat_lt max (image_size (sections_read shape reading)) ≡ true → IsRepaired max shape found image (Err TooLarge)
too_large_so max shape found image reading read large =
    subst (λ f. IsRepaired max shape f image (Err TooLarge)) (sym read.guess)
    (subst (λ bytes. nat_lt max (image_size (repair_sections shape reading.guess bytes)) ≡ true) read.image_is large)

-- where the data that the file keeps have more bytes, it has too
pub too_much : (max : ℕ) (shape : Option Shape) (found : Option Guess) (image : List ℕ) (reading : Reading) → IsReadBy found image reading
    → nat_lt max (least_room shape (file_in reading)) ≡ true → IsRepaired max shape found image (Err TooLarge)
too_much max shape found image reading read past =
    let room = pairs_take_room shape reading.guess reading.image read.legal in
    let low = ltb-true max (least_room shape (file_in reading)) past in
    too_large_so max shape found image reading read (lt-ltb max (image_size (sections_read shape reading)) (omega (arith, room, low)))

-- the sections can be loaded
pub can_be_loaded : (shape : Option Shape) (found : Option Guess) (image : List ℕ) (reading : Reading) (sections : List Section)
    → IsReadBy found image reading → sections ≡ sections_read shape reading → AreLoadable sections
can_be_loaded shape found image reading sections read are =
    subst AreLoadable (sym are) (parts_are_loadable shape reading.guess reading.image read.legal)

-- Refusals.

-- a refusal of sections without an error means that memory ran out, or that their image would be too large
pub without_error : (first large : Option LoadError) (error : LoadError) → first ≡ None → IsLoadRefusalBy first large error
    → (error ≡ MemoryForIt) ⊎ (large ≡ Some error)
without_error first large error none = subst (λ f. IsLoadRefusalBy f large error → (error ≡ MemoryForIt) ⊎ (large ≡ Some error)) (sym none) (λ so. so)

no_error : (shape : Option Shape) (reading : Reading) (sections : List Section) → sections ≡ sections_read shape reading → load_error sections ≡ None
no_error shape reading sections are = ap load_error are ∙ parts_have_no_errors shape reading.guess reading.image

pub large_only : (b : Bool) (error : LoadError) → (if b then Some TooLargeImage else None) ≡ Some error → (b ≡ true) × (error ≡ TooLargeImage)
large_only true error is = let same : TooLargeImage ≡ error = cc is in (refl, sym same)
large_only false error is = absurd (cc is)

-- what a refusal of the sections is
refusal : (max : ℕ) (shape : Option Shape) (reading : Reading) (sections : List Section) (error : LoadError) → sections ≡ sections_read shape reading
    → IsLoadRefusal max sections error
    → (error ≡ MemoryForIt) ⊎ ((nat_lt max (image_size (sections_read shape reading)) ≡ true) × (error ≡ TooLargeImage))
refusal max shape reading sections error are refused =
    elim (without_error (load_error sections) (size_error max sections) error (no_error shape reading sections are) refused) [
      | inl memory ↦ inl memory
      | inr large ↦
          inr (large_only (nat_lt max (image_size (sections_read shape reading))) error (sym (ap (size_error max) are) ∙ large))
    ]

-- no other error of loading comes
refusal_may_come : (max : ℕ) (shape : Option Shape) (reading : Reading) (sections : List Section) (error : LoadError)
    → sections ≡ sections_read shape reading → IsLoadRefusal max sections error → may_come error ≡ true
refusal_may_come max shape reading sections error are refused =
    elim (refusal max shape reading sections error are refused) [
      | inl memory ↦ ap may_come memory
      | inr large ↦ ap may_come large.1
    ]

pub refusals_may_come : (max : ℕ) (shape : Option Shape) (reading : Reading) (sections : List Section) (loaded : Result (List ℕ) LoadError)
    → sections ≡ sections_read shape reading → IfErr loaded (IsLoadRefusal max sections) → IfErr loaded (λ error. IsTrue (may_come error))
refusals_may_come max shape reading sections (Ok built) are refused = tt
refusals_may_come max shape reading sections (Err error) are refused = refusal_may_come max shape reading sections error are refused

refused_so : (max : ℕ) (shape : Option Shape) (found : Option Guess) (image : List ℕ) (reading : Reading) (sections : List Section) (error : LoadError)
    → IsReadBy found image reading → sections ≡ sections_read shape reading → IsLoadRefusal max sections error
    → IsRepaired max shape found image (Err (repair_refusal error))
refused_so max shape found image reading sections error read are refused =
    elim (refusal max shape reading sections error are refused) [
      | inl memory ↦
          subst (λ e. IsRepaired max shape found image (Err (repair_refusal e))) (sym memory)
          (subst (λ f. IsRepaired max shape f image (Err (repair_refusal MemoryForIt))) (sym read.guess) tt)
      | inr large ↦
          subst (λ e. IsRepaired max shape found image (Err (repair_refusal e))) (sym large.1)
          (too_large_so max shape found image reading read large.0)
    ]

pub not_large : (b : Bool) → (if b then Some TooLargeImage else None) ≡ None → b ≡ false
not_large true none = absurd (cc none)
not_large false none = refl

-- what loading the sections answered
pub loaded_so : (max : ℕ) (shape : Option Shape) (found : Option Guess) (image : List ℕ) (reading : Reading) (sections : List Section)
    (loaded : Result (List ℕ) LoadError) → IsReadBy found image reading → sections ≡ sections_read shape reading
    → IfOk loaded (λ built. Builds sections built) → OnOk loaded (loading_error max sections ≡ None) → IfErr loaded (IsLoadRefusal max sections)
    → IsRepaired max shape found image (repair_answer loaded)
loaded_so max shape found image reading sections (Ok built) read are builds sound refused =
    let all : List Section = sections_read shape reading in
    let size : size_error max all ≡ None =
    sym (ap (λ e. or_else e (size_error max all)) (parts_have_no_errors shape reading.guess reading.image))
    ∙ (ap (loading_error max) (sym are) ∙ sound) in
    subst (λ f. IsRepaired max shape f image (Ok built)) (sym read.guess)
    (subst (λ bytes. Builds (repair_sections shape reading.guess bytes) built
    × (nat_lt max (image_size (repair_sections shape reading.guess bytes)) ≡ false))
    read.image_is (subst (λ ss. Builds ss built) are builds, not_large (nat_lt max (image_size all)) size))
loaded_so max shape found image reading sections (Err error) read are builds sound refused =
    refused_so max shape found image reading sections error read are refused
