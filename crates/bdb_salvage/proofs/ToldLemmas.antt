-- Page 0 of a sound file tells the order and the page size of the file.
use Rattle.std.proofs.Common.{◌≡◌, ℕ, ◌≤◌, true, false, List, length, arith, refl, sym, ◌∙◌, ap, inl, inr, true≢false, ◌==◌, if◌then◌else◌, Option, Some, None}
use Rattle.std.specs.Option.{option_or}
use Rattle.std.proofs.lemmas.Bool.{cases_Bool, le-ltb, ltb-false, not-false, or_cases, or_parts}
use Rattle.bdb_rescue.specs.of_format.declared.kinds.Order.{Order}
use Rattle.bdb_rescue.specs.of_format.declared.kinds.Order.TheVariants.{Big, Little}
use Rattle.bdb_rescue.specs.of_format.Terms.{first_row, four_at, head_of, head_rows, heap_magic, is_magic, is_page_size, magic_at, order_of}
use Rattle.bdb_rescue.proofs.of_format.BoolLemmas.{first_or_none}
use Rattle.bdb_rescue.proofs.of_format.VerdictLemmas.{none_is_first_row}
use Rattle.bdb_rescue.specs.of_image.Formed.{IsAccepted}
use Rattle.bdb_rescue.proofs.of_image.FirstLemmas.{formed_accepted}
use Rattle.bdb_rescue.specs.of_law_sums.Databases.{IsSoundForest}
use Rattle.bdb_rescue.proofs.of_law_sums.MetaLemmas.{sound_forest}
use Rattle.bdb_law_whole.proofs.KeptLemmas.{sound_files_are_kept}
use Rattle.bdb_rescue.specs.of_survey.declared.guess.Guess.{Guess}
use Rattle.bdb_rescue.specs.Guesses.{chosen, guess_in, guess_of, is_known_magic}
use Rattle.bdb_salvage.specs.KeepsAll.{SalvageKeepsAll, guess_told}

-- what no row of page 0 says
record IsTold (image : List ℕ) : Type 0 where
  long : 512 ≤ length image
  magic : is_magic (magic_at image) ≡ true
  no_heap : (magic_at image == heap_magic) ≡ false
  legal : is_page_size (four_at (order_of image) image 20) ≡ true

told : (image : List ℕ) → first_row (head_rows image) ≡ None → IsTold image
unfolding head_rows
told image none =
    let fail = none_is_first_row (head_rows image) none in
    record {
      long = ltb-false (length image) 512 fail.0;
      magic = not-false (is_magic (magic_at image)) fail.1.0;
      no_heap = fail.1.1.0;
      legal =
          first_or_none (is_page_size (four_at (order_of image) image 20))
          (four_at (order_of image) image 20 == 65536) fail.1.1.1.1.1.0 fail.1.1.1.1.0;
    }

known : (n : ℕ) → is_magic n ≡ true → (n == heap_magic) ≡ false → is_known_magic n ≡ true
known n magic other =
    elim (or_cases (is_known_magic n) (n == heap_magic) magic) [
      | inl is ↦ is
      | inr heap ↦ absurd (true≢false (sym heap ∙ other))
    ]

unknown : (n : ℕ) → is_magic n ≡ false → is_known_magic n ≡ false
unknown n none = (or_parts (is_known_magic n) (n == heap_magic) none).0

abbrev guess_by : Order → List ℕ → Guess
guess_by order image = record { order = order; page_size = four_at order image 20 }

guessed_in : (order : Order) (image : List ℕ) → is_known_magic (four_at order image 12) ≡ true → is_page_size (four_at order image 20) ≡ true
    → guess_in order image ≡ Some (guess_by order image)
guessed_in order image magic legal = rw (magic, legal) refl

not_guessed_in : (order : Order) (image : List ℕ) → is_known_magic (four_at order image 12) ≡ false → guess_in order image ≡ None
not_guessed_in order image none = rw none refl

-- by the order in which page 0 has its magic number
by_order : (image : List ℕ) → IsTold image → option_or (guess_in Little image) (guess_in Big image) ≡ Some (guess_by (order_of image) image)
by_order image is =
    elim (cases_Bool (is_magic (four_at Little image 12))) [
      | inl little ↦
          let order : order_of image ≡ Little = ap (λ b. if b then Little else Big) little in
          let magic : is_known_magic (four_at Little image 12) ≡ true =
          ap (λ o. is_known_magic (four_at o image 12)) (sym order) ∙ known (magic_at image) is.magic is.no_heap in
          let legal : is_page_size (four_at Little image 20) ≡ true = ap (λ o. is_page_size (four_at o image 20)) (sym order) ∙ is.legal in
          ap (λ (first : Option Guess). option_or first (guess_in Big image)) (guessed_in Little image magic legal)
          ∙ ap (λ o. Some (guess_by o image)) (sym order)
      | inr big ↦
          let order : order_of image ≡ Big = ap (λ b. if b then Little else Big) big in
          let magic : is_known_magic (four_at Big image 12) ≡ true =
          ap (λ o. is_known_magic (four_at o image 12)) (sym order) ∙ known (magic_at image) is.magic is.no_heap in
          let legal : is_page_size (four_at Big image 20) ≡ true = ap (λ o. is_page_size (four_at o image 20)) (sym order) ∙ is.legal in
          ap (λ (first : Option Guess). option_or first (guess_in Big image)) (not_guessed_in Little image (unknown (four_at Little image 12) big))
          ∙ (guessed_in Big image magic legal ∙ ap (λ o. Some (guess_by o image)) (sym order))
    ]

own_head : (image : List ℕ) → guess_by (order_of image) image ≡ guess_told image
unfolding head_of
own_head image = refl

told_guess : (image : List ℕ) → IsTold image → chosen None image ≡ Some (guess_told image)
unfolding guess_of
told_guess image is =
    ap (λ b. if b then None else option_or (guess_in Little image) (guess_in Big image))
    (le-ltb (length image) 24 (let long : 512 ≤ length image = is.long in omega arith))
    ∙ (by_order image is ∙ ap (λ guess. Some guess) (own_head image))

-- An image that passes the rows of the whole file is read by what page 0 tells.
pub guess_is_told : (image : List ℕ) → first_row (head_rows image) ≡ None → chosen None image ≡ Some (guess_told image)
guess_is_told image none = told_guess image (told image none)

pub salvage_keeps_all : SalvageKeepsAll
salvage_keeps_all image is =
    let sound : IsSoundForest image = sound_forest image is.small is.sound is.kind in
    let accepted : IsAccepted image (head_of image) = formed_accepted image (head_of image) sound.forest.formed in
    record { guess = told_guess image (told image accepted.accepted); lists = sound_files_are_kept image is }
