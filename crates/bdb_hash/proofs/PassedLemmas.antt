-- The pairs of a table that were noted by themselves, one after another.
use Rattle.std.proofs.Common.{◌≡◌, ℕ, ◌+◌, Bool, true, false, ◌||◌, List, [], ◌∷◌, ◌++◌, map, refl, sym, ◌∙◌, ap, subst, append-nil, append_assoc}
use Rattle.std.specs.List.{flat_map, list_any, range_with_len}
use Rattle.std.proofs.Math.Bool.{or-false}
use Rattle.std.proofs.lemmas.Grind.{flat_map-append}
use Rattle.std.proofs.lemmas.List.{map-append}
use Rattle.std.proofs.lemmas.List.Folds.{list_any-append}
use Rattle.bdb_faults.specs.Notes.{Notes}
use Rattle.bdb_ranks.specs.of_format.declared.kinds.Fault.{Fault}
use Rattle.bdb_ranks.specs.of_format.declared.metadata.HashMeta.{HashMeta}
use Rattle.bdb_ranks.specs.of_format.Terms.{bucket_pages, file_of}
use Rattle.bdb_hash.specs.Noted.{bucket_faults, has_stray_in, is_stray, pair_faults, repeat_faults}
use Rattle.bdb_hash.specs.Passed.{IsPassing, Passes, key_hash}
use Rattle.bdb_buckets.specs.Told.{Told, bucket_told, joined_pages, page_told}
use Rattle.bdb_hash.specs.declared.passed.Passed.{Passed}
use Rattle.bdb_faults.proofs.SinkLemmas.{notes_nothing, notes_then}
use Rattle.bdb_ranks.proofs.of_format.ListLemmas.{range_zero_more}
use Rattle.bdb_buckets.proofs.ChainedLemmas.{first_of, rest_of}
use Rattle.bdb_hash.proofs.ChainedLemmas.{first_page_of, other_pages_of}

or_assoc : (a b c : Bool) → ((a || b) || c) ≡ (a || (b || c))
or_assoc true b c = refl
or_assoc false b c = refl

both_pass : (meta : HashMeta) (b : ℕ) (before mid after : List Fault → Type 0) (old now next : Passed) (xs ys : List Told)
    → Passes meta b before mid old now xs → Passes meta b mid after now next ys → Passes meta b before after old next (xs ++ ys)
both_pass meta b before mid after old now next xs ys first second = record {
  noted = subst (Notes before after) (sym (flat_map-append (pair_faults meta b) xs ys))
      (notes_then before mid after (flat_map (pair_faults meta b) xs) (flat_map (pair_faults meta b) ys) first.noted second.noted);
  hashes =
      second.hashes
      ∙ (ap (λ hs. hs ++ map key_hash ys) first.hashes
      ∙ (append_assoc old.hashes.items (map key_hash xs) (map key_hash ys) ∙ ap (λ hs. old.hashes.items ++ hs) (sym (map-append key_hash xs ys))));
  stray =
      second.stray
      ∙ (ap (λ s. s || list_any (is_stray meta b) ys) first.stray
      ∙ (or_assoc old.has_stray (list_any (is_stray meta b) xs) (list_any (is_stray meta b) ys)
      ∙ ap (λ s. old.has_stray || s) (sym (list_any-append (is_stray meta b) xs ys))));
}

pub none_passing : (meta : HashMeta) (b : ℕ) (before : List Fault → Type 0) (passed : Passed) (all : List Told)
    → IsPassing meta b before before passed passed all all
none_passing meta b before passed all = record {
  done = [];
  whole = refl;
  passes = record {
    noted = notes_nothing before;
    hashes = sym (append-nil passed.hashes.items);
    stray = sym (or-false passed.has_stray);
  };
}

pub more_passing : (meta : HashMeta) (b : ℕ) (before mid after : List Fault → Type 0) (old now next : Passed) (all left here rest : List Told)
    → IsPassing meta b before mid old now all left → left ≡ here ++ rest → Passes meta b mid after now next here
    → IsPassing meta b before after old next all rest
more_passing meta b before mid after old now next all left here rest passing is passes = record {
  done = passing.done ++ here;
  whole = passing.whole ∙ (ap (λ ts. passing.done ++ ts) is ∙ sym (append_assoc passing.done here rest));
  passes = both_pass meta b before mid after old now next passing.done here passing.passes passes;
}

pub one_passing : (meta : HashMeta) (b : ℕ) (before mid after : List Fault → Type 0) (old now next : Passed) (all left rest : List Told) (t : Told)
    → IsPassing meta b before mid old now all left → left ≡ t ∷ rest → Passes meta b mid after now next (t ∷ [])
    → IsPassing meta b before after old next all rest
one_passing meta b before mid after old now next all left rest t passing is passes =
    more_passing meta b before mid after old now next all left (t ∷ []) rest passing is passes

pub all_passing : (meta : HashMeta) (b : ℕ) (before after : List Fault → Type 0) (old new : Passed) (all left : List Told)
    → IsPassing meta b before after old new all left → left ≡ [] → Passes meta b before after old new all
all_passing meta b before after old new all left passing none =
    subst (Passes meta b before after old new)
    (sym (passing.whole ∙ (ap (λ ts. passing.done ++ ts) none ∙ append-nil passing.done))) passing.passes

-- one more bucket noted
pub bucket_passed : (image : List ℕ) (meta : HashMeta) (b : ℕ) (before mid next after : List Fault → Type 0) (old new : Passed)
    (pages again : List (List Told))
    → Notes before mid (flat_map (bucket_faults image meta) (range_with_len 0 b))
    → pages ≡ map (page_told image) (bucket_pages (file_of image) meta b) → Passes meta b mid next old new (joined_pages pages)
    → again ≡ map (page_told image) (bucket_pages (file_of image) meta b) → Notes next after (repeat_faults (joined_pages again))
    → Notes before after (flat_map (bucket_faults image meta) (range_with_len 0 (b + 1)))
bucket_passed image meta b before mid next after old new pages again done are passes are_again repeats =
    let own : List Fault = flat_map (pair_faults meta b) (bucket_told image meta b) in
    let first : Notes mid next own = subst (λ ps. Notes mid next (flat_map (pair_faults meta b) (joined_pages ps))) are passes.noted in
    let second : Notes next after (repeat_faults (bucket_told image meta b)) =
    subst (λ ps. Notes next after (repeat_faults (joined_pages ps))) are_again repeats in
    let earlier : List Fault = flat_map (bucket_faults image meta) (range_with_len 0 b) in
    let same : earlier ++ bucket_faults image meta b ≡ flat_map (bucket_faults image meta) (range_with_len 0 (b + 1)) =
    ap (λ fs. earlier ++ fs) (sym (append-nil (bucket_faults image meta b)))
    ∙ (sym (flat_map-append (bucket_faults image meta) (range_with_len 0 b) (b ∷ [])) ∙ ap (flat_map (bucket_faults image meta)) (sym (range_zero_more b))) in
    subst (Notes before after) same
    (notes_then before mid after earlier (bucket_faults image meta b) done
    (notes_then mid next after own (repeat_faults (bucket_told image meta b)) first second))

-- and looked for strays
pub bucket_strays : (image : List ℕ) (meta : HashMeta) (b : ℕ) (mid next : List Fault → Type 0) (old new : Passed) (pages : List (List Told))
    → old.has_stray ≡ list_any (has_stray_in image meta) (range_with_len 0 b)
    → pages ≡ map (page_told image) (bucket_pages (file_of image) meta b) → Passes meta b mid next old new (joined_pages pages)
    → new.has_stray ≡ list_any (has_stray_in image meta) (range_with_len 0 (b + 1))
bucket_strays image meta b mid next old new pages done are passes =
    passes.stray
    ∙ (ap (λ ps. old.has_stray || list_any (is_stray meta b) (joined_pages ps)) are
    ∙ (ap (λ s. s || has_stray_in image meta b) done
    ∙ (ap (λ s. list_any (has_stray_in image meta) (range_with_len 0 b) || s) (sym (or-false (has_stray_in image meta b)))
    ∙ (sym (list_any-append (has_stray_in image meta) (range_with_len 0 b) (b ∷ []))
    ∙ ap (list_any (has_stray_in image meta)) (sym (range_zero_more b))))))

-- how a page is gone through
pub ruleset passing_page = (first_of, rest_of, all_passing, none_passing, one_passing)

-- how a bucket is gone through
pub ruleset passing_bucket = (first_page_of, other_pages_of, all_passing, more_passing, none_passing)
