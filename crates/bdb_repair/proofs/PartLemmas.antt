-- What is salvaged can be loaded, without an error.
use Rattle.std.proofs.Common.{◌≡◌, ℕ, ◌+◌, ◌≤◌, ◌==◌, true, false, List, [], ◌∷◌, length, map, Option, Some, None, arith, refl, ne_eqb, IsTrue}
use Rattle.std.specs.List.{All, enumerate_from, flat_map, sum_by}
use Rattle.std.proofs.lemmas.List.Elements.{All-cons, All-nil}
use Rattle.std.proofs.lemmas.List.Sums.{sum_by-cons}
use Rattle.bdb_model.specs.of_format.declared.kinds.Kind.TheVariants.{Queue}
use Rattle.bdb_model.specs.of_format.Terms.{File, is_page_size}
use Rattle.bdb_model.specs.of_text_format.Terms.{holds_records}
use Rattle.bdb_mkfile.specs.of_law_sections.Fit.{AreFitSettings, IsFitPair, IsFitSection}
use Rattle.bdb_mkfile.proofs.of_law_sections.PairLemmas.{fit_longer}
use Rattle.bdb_mkfile.specs.of_settle.LoadErrors.{load_error, pair_errors}
use Rattle.bdb_mkfile.specs.Loading.{AreLoadable}
use Rattle.bdb_rescue.specs.of_survey.declared.guess.Guess.{Guess}
use Rattle.bdb_rescue.specs.of_survey.Salvage.{loose, salvaged_file, stored}
use Rattle.bdb_model.specs.declared.shape.Duplicates.TheVariants.{No, Unsorted, Sorted}
use Rattle.bdb_model.specs.declared.shape.Shape.{Shape}
use Rattle.bdb_model.specs.declared.shape.Shape.TheVariants.{Btree as BtreeShape, Hash as HashShape, Recno as RecnoShape}
use Rattle.bdb_repair.specs.Laws.{PartsAreLoadable, PartsHaveNoErrors}
use Rattle.bdb_repair.specs.Parts.{loose_pair, loose_pairs, loose_part, loose_section, sections_of_file, shaped_section}
use Rattle.bdb_repair.specs.Parts.{stored_pair, stored_pairs, stored_section}
use Rattle.bdb_repair.specs.Shapes.{are_several, are_sorted, duplicates_of, kind_of, shaped_settings}

-- Errors.

no_stored_errors : (guess : Guess) (shape : Shape) (pairs : List (List ℕ × List ℕ))
    → flat_map (pair_errors (shaped_settings guess shape)) (stored_pairs pairs) ≡ []
no_stored_errors guess shape [] = refl
no_stored_errors guess shape (pair ∷ pairs) = no_stored_errors guess shape pairs

not_zero : (n : ℕ) → 1 ≤ n → (n == 0) ≡ false
not_zero n some = ne_eqb n 0 (λ none. omega arith)

no_numbered_errors : (guess : Guess) (n : ℕ) (records : List (List ℕ)) → 1 ≤ n
    → flat_map (pair_errors (shaped_settings guess RecnoShape)) (map loose_pair (enumerate_from n records)) ≡ []
no_numbered_errors guess n [] some = refl
no_numbered_errors guess n (value ∷ records) some = rw (not_zero n some) (no_numbered_errors guess (n + 1) records (omega arith))

no_loose_errors : (guess : Guess) (records : List (List ℕ)) → flat_map (pair_errors (shaped_settings guess RecnoShape)) (loose_pairs records) ≡ []
no_loose_errors guess records = no_numbered_errors guess 1 records (omega arith)

named_have_no_errors : (guess : Guess) (pairs : List (List ℕ × List ℕ)) (records : List (List ℕ))
    → load_error (stored_section guess pairs ∷ loose_part guess records) ≡ None
named_have_no_errors guess pairs [] = rw (no_stored_errors guess (BtreeShape Unsorted) pairs) refl
named_have_no_errors guess pairs (first ∷ records) =
    rw (no_stored_errors guess (BtreeShape Unsorted) pairs, no_loose_errors guess (first ∷ records)) refl

shaped_has_no_errors : (shape : Shape) (guess : Guess) (file : File) → load_error (shaped_section guess shape file ∷ []) ≡ None
shaped_has_no_errors (BtreeShape duplicates) guess file = rw (no_stored_errors guess (BtreeShape duplicates) (stored file)) refl
shaped_has_no_errors (HashShape duplicates) guess file = rw (no_stored_errors guess (HashShape duplicates) (stored file)) refl
shaped_has_no_errors RecnoShape guess file = rw (no_loose_errors guess (loose file)) refl

have_no_errors : (shape : Option Shape) (guess : Guess) (file : File) → load_error (sections_of_file shape guess file) ≡ None
have_no_errors None guess file = named_have_no_errors guess (stored file) (loose file)
have_no_errors (Some shape) guess file = shaped_has_no_errors shape guess file

pub parts_have_no_errors : PartsHaveNoErrors
parts_have_no_errors shape guess image = have_no_errors shape guess (salvaged_file guess.order guess.page_size image)

-- Fit pairs.

-- what bounds each key and each datum
abbrev pub pair_length : (List ℕ × List ℕ) → ℕ
pair_length pair = length pair.0 + length pair.1

abbrev total_length : List (List ℕ) → ℕ
total_length values = sum_by (λ (value : List ℕ). length value) values

pub fit_stored : (pairs : List (List ℕ × List ℕ)) → All (IsFitPair false (sum_by pair_length pairs)) (stored_pairs pairs)
fit_stored [] = All-nil (IsFitPair false 0)
fit_stored (pair ∷ pairs) =
    let sum = sum_by-cons pair_length pair pairs in
    All-cons (IsFitPair false (sum_by pair_length (pair ∷ pairs))) (stored_pair pair) (stored_pairs pairs)
    (record { key = refl; key_length = omega (arith, sum); length = omega (arith, sum) })
    (fit_longer false (sum_by pair_length pairs) (sum_by pair_length (pair ∷ pairs)) (stored_pairs pairs) (omega (arith, sum)) (fit_stored pairs))

fit_numbered : (n : ℕ) (records : List (List ℕ)) → All (IsFitPair true (total_length records)) (map loose_pair (enumerate_from n records))
fit_numbered n [] = All-nil (IsFitPair true 0)
fit_numbered n (value ∷ records) =
    let sum = sum_by-cons (λ (one : List ℕ). length one) value records in
    All-cons (IsFitPair true (total_length (value ∷ records))) (loose_pair (n, value)) (map loose_pair (enumerate_from (n + 1) records))
    (record { key = refl; key_length = omega arith; length = omega (arith, sum) })
    (fit_longer true (total_length records) (total_length (value ∷ records)) (map loose_pair (enumerate_from (n + 1) records)) (omega (arith, sum))
    (fit_numbered (n + 1) records))

-- Fit settings.

sorted_are_several : (shape : Shape) → are_sorted (duplicates_of shape) ≡ true → are_several (duplicates_of shape) ≡ true
sorted_are_several (BtreeShape No) is = absurd (cc is)
sorted_are_several (BtreeShape Unsorted) is = refl
sorted_are_several (BtreeShape Sorted) is = refl
sorted_are_several (HashShape No) is = absurd (cc is)
sorted_are_several (HashShape Unsorted) is = refl
sorted_are_several (HashShape Sorted) is = refl
sorted_are_several RecnoShape is = absurd (cc is)

records_have_no_duplicates : (shape : Shape) → holds_records (kind_of shape) ≡ true → are_several (duplicates_of shape) ≡ false
records_have_no_duplicates (BtreeShape duplicates) is = absurd (cc is)
records_have_no_duplicates (HashShape duplicates) is = absurd (cc is)
records_have_no_duplicates RecnoShape is = refl

no_queue : (shape : Shape) → kind_of shape ≡ Queue → ⊥
no_queue (BtreeShape duplicates) is = absurd (cc is)
no_queue (HashShape duplicates) is = absurd (cc is)
no_queue RecnoShape is = absurd (cc is)

fit_settings : (guess : Guess) (shape : Shape) → IsTrue (is_page_size guess.page_size) → AreFitSettings (shaped_settings guess shape)
fit_settings guess shape legal = record {
  page_size = legal;
  sorted = sorted_are_several shape;
  counted = λ is. absurd (cc is);
  records = records_have_no_duplicates shape;
  re_len = omega arith;
  fixed = λ is. absurd (no_queue shape is);
}

-- Fit sections.

named_are_loadable : (guess : Guess) (pairs : List (List ℕ × List ℕ)) (records : List (List ℕ)) → IsTrue (is_page_size guess.page_size)
    → AreLoadable (stored_section guess pairs ∷ loose_part guess records)
named_are_loadable guess pairs [] legal = record {
  most = sum_by pair_length pairs;
  fit = record {
    some = refl;
    each =
        All-cons (IsFitSection (sum_by pair_length pairs)) (stored_section guess pairs) []
        (record { settings = fit_settings guess (BtreeShape Unsorted) legal; pairs = fit_stored pairs })
        (All-nil (IsFitSection (sum_by pair_length pairs)));
    names = (refl, refl, tt);
  };
}
named_are_loadable guess pairs (first ∷ records) legal =
    let most : ℕ = sum_by pair_length pairs + total_length (first ∷ records) in
    record {
      most = most;
      fit = record {
        some = refl;
        each =
            All-cons (IsFitSection most) (stored_section guess pairs) (loose_section guess (first ∷ records) ∷ [])
            (record {
              settings = fit_settings guess (BtreeShape Unsorted) legal;
              pairs = fit_longer false (sum_by pair_length pairs) most (stored_pairs pairs) (omega arith) (fit_stored pairs);
            })
            (All-cons (IsFitSection most) (loose_section guess (first ∷ records)) []
            (record {
              settings = fit_settings guess RecnoShape legal;
              pairs = fit_longer true (total_length (first ∷ records)) most (loose_pairs (first ∷ records)) (omega arith) (fit_numbered 1 (first ∷ records));
            }) (All-nil (IsFitSection most)));
        names = (refl, refl, (refl, refl, tt));
      };
    }

-- one section without a name
alone_is_loadable : (most : ℕ) (guess : Guess) (shape : Shape) (file : File) → IsFitSection most (shaped_section guess shape file)
    → AreLoadable (shaped_section guess shape file ∷ [])
alone_is_loadable most guess shape file fit = record {
  most = most;
  fit = record {
    some = refl;
    each = All-cons (IsFitSection most) (shaped_section guess shape file) [] fit (All-nil (IsFitSection most));
    names = (refl, refl, tt);
  };
}

shaped_is_loadable : (shape : Shape) (guess : Guess) (file : File) → IsTrue (is_page_size guess.page_size)
    → AreLoadable (shaped_section guess shape file ∷ [])
shaped_is_loadable (BtreeShape duplicates) guess file legal =
    alone_is_loadable (sum_by pair_length (stored file)) guess (BtreeShape duplicates) file
    (record { settings = fit_settings guess (BtreeShape duplicates) legal; pairs = fit_stored (stored file) })
shaped_is_loadable (HashShape duplicates) guess file legal =
    alone_is_loadable (sum_by pair_length (stored file)) guess (HashShape duplicates) file
    (record { settings = fit_settings guess (HashShape duplicates) legal; pairs = fit_stored (stored file) })
shaped_is_loadable RecnoShape guess file legal =
    alone_is_loadable (total_length (loose file)) guess RecnoShape file
    (record { settings = fit_settings guess RecnoShape legal; pairs = fit_numbered 1 (loose file) })

are_loadable : (shape : Option Shape) (guess : Guess) (file : File) → IsTrue (is_page_size guess.page_size) → AreLoadable (sections_of_file shape guess file)
are_loadable None guess file legal = named_are_loadable guess (stored file) (loose file) legal
are_loadable (Some shape) guess file legal = shaped_is_loadable shape guess file legal

pub parts_are_loadable : PartsAreLoadable
parts_are_loadable shape guess image legal = are_loadable shape guess (salvaged_file guess.order guess.page_size image) legal
