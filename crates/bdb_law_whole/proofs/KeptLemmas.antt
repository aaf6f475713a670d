-- Counts of what salvage gives from a sound file are counts of what its databases list.
use Rattle.std.proofs.Common.{◌≡◌, ℕ, zero, suc, ◌+◌, ◌-◌, ◌<◌, ◌≤◌, Bool, true, false, List, [], ◌∷◌, arith, refl, sym, ◌∙◌, ap, if◌then◌else◌}
use Rattle.std.specs.List.{count_by, flat_map, range_with_len, sum_by}
use Rattle.bdb_survey.specs.of_format.Terms.{BytesKey, File, ListKey, NumberKey, entries_in, file_of, head_of}
use Rattle.bdb_survey.proofs.of_format.ListLemmas.{sum_last}
use Rattle.bdb_survey.proofs.of_format.MemberLemmas.{of_range}
use Rattle.bdb_survey.proofs.of_format.FileLemmas.{kind_is, past_last}
use Rattle.bdb_survey.specs.Salvage.{is_taken, item_pairs, live_value, live_whole, loose, loose_on, stored, stored_on, stored_pair}
use Rattle.bdb_survey.proofs.StoredPageLemmas.{count_is}
use Rattle.bdb_survey.specs.of_law_sums.Databases.{IsSoundForest, all_lists, by_bytes, by_value, given_on, left_on}
use Rattle.bdb_survey.proofs.of_law_sums.CountLemmas.{sum_parts, sum_same}
use Rattle.bdb_survey.proofs.of_law_sums.MetaLemmas.{sound_forest}
use Rattle.bdb_survey.proofs.of_law_sums.PairLemmas.{pairs_are_of_databases}
use Rattle.bdb_survey.proofs.of_law_sums.RecordLemmas.{records_are_of_databases}
use Rattle.bdb_law_whole.specs.Guessed.{guessed}
use Rattle.bdb_law_whole.specs.Kept.{SoundFilesAreKept, on_pair, on_record}
use Rattle.bdb_law_whole.specs.Whole.{AreBytes, IsStructured}
use Rattle.bdb_law_whole.proofs.PageLemmas.{last_there, seen_alike}
use Rattle.bdb_law_whole.proofs.PairLemmas.{live_is, stored_is}
use Rattle.bdb_law_whole.proofs.TakenLemmas.{taken_is}

-- Sums over the pages of an image.

-- where the rest gives nothing, a sum ends before it
cut_at : (f : ℕ → ℕ) (n more : ℕ) → ((p : ℕ) → n ≤ p → p < n + more → f p ≡ 0)
    → sum_by f (range_with_len 0 (n + more)) ≡ sum_by f (range_with_len 0 n)
cut_at f n zero none = ap (λ k. sum_by f (range_with_len 0 k)) (let same : n + 0 ≡ n = omega arith in same)
cut_at f n (suc more) none =
    let same : n + suc more ≡ (n + more) + 1 = omega arith in
    let nothing : f (n + more) ≡ 0 = none (n + more) (omega arith) (omega arith) in
    ap (λ k. sum_by f (range_with_len 0 k)) same
    ∙ omega (arith, sum_last f (n + more), nothing, cut_at f n more (λ p low high. none p low (omega arith)))

-- a sum over the pages that salvage reads is one up to the last page
whole_sum : (image : List ℕ) (f : ℕ → ℕ) → IsStructured image → ((p : ℕ) → (file_of image).last < p → f p ≡ 0)
    → sum_by f (range_with_len 0 (guessed image).count) ≡ sum_by f (range_with_len 0 ((file_of image).last + 1))
whole_sum image f sound none =
    let last : ℕ = (file_of image).last in
    let more : ℕ = (guessed image).count - (last + 1) in
    let same : (guessed image).count ≡ (last + 1) + more =
    omega (
      arith,
      last_there image sound.forest,
      count_is (head_of image).order (head_of image).page_size image,
    ) in
    ap (λ n. sum_by f (range_with_len 0 n)) same ∙ cut_at f (last + 1) more (λ p low high. none p (omega arith))

-- what all pages give weighs what the pages of the file give
pages_weigh : {X : Type 0} (image : List ℕ) (weight : X → ℕ) (f g : ℕ → List X) → IsStructured image → ((p : ℕ) → (file_of image).last < p → f p ≡ [])
    → ((p : ℕ) → p ≤ (file_of image).last → f p ≡ g p)
    → sum_by weight (flat_map f (range_with_len 0 (guessed image).count)) ≡ sum_by weight (flat_map g (range_with_len 0 ((file_of image).last + 1)))
pages_weigh image weight f g sound none same =
    let pages : List ℕ = range_with_len 0 ((file_of image).last + 1) in
    sum_parts weight f (range_with_len 0 (guessed image).count)
    ∙ (whole_sum image (λ p. sum_by weight (f p)) sound (λ p past. ap (sum_by weight) (none p past))
    ∙ (sum_same (λ p. sum_by weight (f p)) (λ p. sum_by weight (g p)) pages
    (λ p at. ap (sum_by weight) (same p (omega (arith, (of_range 0 ((file_of image).last + 1) p at).1))))
    ∙ sym (sum_parts weight g pages)))

-- Above the last page nothing is given.

pub nothing_stored : (image : List ℕ) (p : ℕ) → IsStructured image → (file_of image).last < p → stored_on (guessed image) p ≡ []
nothing_stored image p sound past =
    ap (flat_map (stored_pair (guessed image)))
    (seen_alike item_pairs image p sound.forest sound.kind refl ∙ ap item_pairs (past_last image p past))

nothing_loose : (image : List ℕ) (p : ℕ) → IsStructured image → (file_of image).last < p → loose_on (guessed image) p ≡ []
unfolding live_whole
nothing_loose image p sound past =
    let none : live_whole (guessed image) p ≡ [] =
    ap (flat_map (live_value (guessed image)))
    (seen_alike entries_in image p sound.forest sound.kind refl ∙ ap entries_in (past_last image p past)) in
    ap (λ values. if is_taken (guessed image) p then [] else values) none ∙ if_same (is_taken (guessed image) p)
  where
    if_same : (b : Bool) → ◌≡◌ {A = List (List ℕ)} (if b then [] else []) []
    if_same true = refl
    if_same false = refl

-- Counts.

abbrev weight_of : {X : Type 0} → (X → Bool) → X → ℕ
weight_of test x = if test x then 1 else 0

pub structured : (image : List ℕ) → IsSoundForest image → IsStructured image
structured image sound =
    record { forest = sound.forest; structure = sound.structure; kind = λ queue. sound.kind (kind_is image ∙ queue) }

pairs_kept : (image : List ℕ) (test : List ℕ × List ℕ → Bool) → IsSoundForest image → AreBytes image
    → count_by test (stored (guessed image)) ≡ count_by (on_pair test) (all_lists (file_of image))
unfolding stored
pairs_kept image test sound are =
    let file : File = file_of image in
    let whole : IsStructured image = structured image sound in
    pages_weigh image (weight_of test) (stored_on (guessed image)) (given_on file) whole (λ p past. nothing_stored image p whole past)
    (λ p low. stored_is image p whole are low)
    ∙ (pairs_are_of_databases image (weight_of test) sound
    ∙ sum_same (by_bytes (weight_of test)) (weight_of (on_pair test)) (all_lists file) (λ entry at. by_key entry))
  where
    by_key : (entry : ListKey × List ℕ) → by_bytes (weight_of test) entry ≡ weight_of (on_pair test) entry
    by_key (BytesKey key, value) = refl
    by_key (NumberKey number, value) = refl

records_kept : (image : List ℕ) (test : List ℕ → Bool) → IsSoundForest image → AreBytes image
    → count_by test (loose (guessed image)) ≡ count_by (on_record test) (all_lists (file_of image))
unfolding loose
records_kept image test sound are =
    let file : File = file_of image in
    let whole : IsStructured image = structured image sound in
    let taken : ℕ → Bool = is_taken (guessed image) in
    pages_weigh image (weight_of test) (loose_on (guessed image)) (left_on file taken) whole (λ p past. nothing_loose image p whole past)
    (λ p low. ap (λ values. if taken p then [] else values) (live_is image p whole low))
    ∙ (records_are_of_databases image (weight_of test) taken sound (taken_is image whole are)
    ∙ sum_same (by_value (weight_of test)) (weight_of (on_record test)) (all_lists file) (λ entry at. by_key entry))
  where
    by_key : (entry : ListKey × List ℕ) → by_value (weight_of test) entry ≡ weight_of (on_record test) entry
    by_key (BytesKey key, value) = refl
    by_key (NumberKey number, value) = refl

pub sound_files_are_kept : SoundFilesAreKept
sound_files_are_kept image is =
    let sound : IsSoundForest image = sound_forest image is.small is.sound is.kind in
    record { pairs = λ test. pairs_kept image test sound is.bytes; records = λ test. records_kept image test sound is.bytes }
