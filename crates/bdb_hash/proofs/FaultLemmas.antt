-- What is noted of a table's contents is each row at each page where it holds.
use Rattle.std.proofs.Common.{◌≡◌, ℕ, ◌+◌, Bool, true, false, List, [], ◌++◌, refl, sym, subst, inl, inr}
use Rattle.std.specs.List.{Contains, flat_map, range_with_len}
use Rattle.std.proofs.lemmas.List.Elements.{Contains-append_cases, Contains-append_left, Contains-append_right}
use Rattle.bdb_ranks.specs.of_image.Linked.{HasMetadata}
use Rattle.bdb_faults.specs.Notes.{Notes, NotesAll}
use Rattle.bdb_faults.proofs.SinkLemmas.{notes_then}
use Rattle.bdb_ranks.proofs.of_format.FaultLemmas.{same_parts}
use Rattle.bdb_ranks.specs.of_format.declared.kinds.Fault.{Fault}
use Rattle.bdb_ranks.specs.of_format.declared.metadata.HashMeta.{HashMeta}
use Rattle.bdb_ranks.specs.of_format.Terms.{File, HashFields, StoredPair, bucket_pairs, database_faults, database_rows, file_of, repeated, table_pairs}
use Rattle.bdb_ranks.specs.of_format.Verdict.{holding}
use Rattle.bdb_ranks.proofs.of_format.MemberLemmas.{in_flat_map, in_map, no_member, of_flat_map, of_map}
use Rattle.bdb_ranks.proofs.of_format.VerdictLemmas.{of_by_page}
use Rattle.bdb_hash.specs.Noted.{bucket_faults, has_stray, pair_faults, repeat_faults, stray_faults}
use Rattle.bdb_buckets.specs.Repeat.{repeat_fault}
use Rattle.bdb_buckets.specs.Told.{stored, Told, bucket_told, table_told, told}
use Rattle.bdb_buckets.specs.Views.{IsTable}
use Rattle.bdb_buckets.proofs.ContentsLemmas.{contents_fault, codes_are, few_buckets, in_faults, repeat_in}
use Rattle.bdb_buckets.proofs.PlainLemmas.{IsPlain, bucket_plain}
use Rattle.bdb_hash.proofs.RepeatLemmas.{in_bucket, in_table}
use Rattle.bdb_buckets.proofs.TableLemmas.{bucket_is, table_stored}
use Rattle.bdb_buckets.proofs.RowLemmas.{buckets_of, page_holds, pair_holds, pair_table, tests_of}
use Rattle.bdb_hash.proofs.NotedLemmas.{pair_faults_are}

-- The faults that are noted.

-- a row that holds for a pair by itself is noted at its page
own_in : (image : List ℕ) (meta : HashMeta) (b : ℕ) (fault : Fault) → IsTable image → HasMetadata (file_of image) (HashFields meta)
    → Contains (buckets_of meta) b → Contains (flat_map (pair_faults meta b) (bucket_told image meta b)) fault
    → Contains (database_faults (file_of image) (HashFields meta)) fault
own_in image meta b fault table has listed at =
    let file : File = file_of image in
    let told_one = of_flat_map (pair_faults meta b) (bucket_told image meta b) fault at in
    let pair = of_map (told image) (bucket_pairs file meta b) told_one.0 (subst (λ ts. Contains ts told_one.0) (bucket_is image meta b) told_one.1) in
    let plain : IsPlain file pair.0 = bucket_plain image meta b pair.0 table has (few_buckets meta b listed) pair.1 in
    let own : Contains (pair_faults meta b (told image pair.0)) fault =
    subst (λ (t : Told). Contains (pair_faults meta b t) fault) (sym pair.2) told_one.2 in
    let code = of_map (contents_fault pair.0.page) (holding (pair_table (tests_of file meta) b pair.0)) fault
    (subst (λ fs. Contains fs fault) (pair_faults_are meta b (told image pair.0)) own) in
    subst (Contains (database_faults file (HashFields meta))) code.2
    (in_faults image meta pair.0.page code.0 plain.inside
    (subst (λ codes. Contains codes code.0) (sym (codes_are image meta pair.0.page table has))
    (pair_holds (bucket_pairs file meta) (buckets_of meta) (tests_of file meta)
    (repeated (table_pairs file meta)) b pair.0 code.0 listed pair.1 code.1)))

-- a fault that was noted is one of the table's
bucket_in : (image : List ℕ) (meta : HashMeta) (b : ℕ) (fault : Fault) → IsTable image → HasMetadata (file_of image) (HashFields meta)
    → Contains (buckets_of meta) b → Contains (bucket_faults image meta b) fault
    → Contains (database_faults (file_of image) (HashFields meta)) fault
bucket_in image meta b fault table has listed at =
    elim (Contains-append_cases (flat_map (pair_faults meta b) (bucket_told image meta b)) (repeat_faults (bucket_told image meta b)) fault at) [
      | inl own ↦ own_in image meta b fault table has listed own
      | inr again ↦
          let pair = of_map repeat_fault (repeated (stored (bucket_told image meta b))) fault again in
          subst (Contains (database_faults (file_of image) (HashFields meta))) pair.2
          (repeat_in image meta pair.0 table has (in_table image meta b pair.0 listed pair.1))
    ]

stray_in : (image : List ℕ) (meta : HashMeta) (strayed : Bool) (fault : Fault) → IsTable image → HasMetadata (file_of image) (HashFields meta)
    → Contains (stray_faults image meta strayed) fault → Contains (database_faults (file_of image) (HashFields meta)) fault
stray_in image meta false fault table has at = absurd (no_member [] fault refl at)
stray_in image meta true fault table has at =
    let pair = of_map repeat_fault (repeated (stored (table_told image meta))) fault at in
    subst (Contains (database_faults (file_of image) (HashFields meta))) pair.2 (repeat_in image meta pair.0 table has pair.1)

-- all that is noted of a table
abbrev table_noted : List ℕ → HashMeta → Bool → List Fault
table_noted image meta strayed = flat_map (bucket_faults image meta) (buckets_of meta) ++ stray_faults image meta strayed

noted_in : (image : List ℕ) (meta : HashMeta) (strayed : Bool) (fault : Fault) → IsTable image → HasMetadata (file_of image) (HashFields meta)
    → Contains (table_noted image meta strayed) fault → Contains (database_faults (file_of image) (HashFields meta)) fault
noted_in image meta strayed fault table has at =
    elim (Contains-append_cases (flat_map (bucket_faults image meta) (buckets_of meta)) (stray_faults image meta strayed) fault at) [
      | inl here ↦
          let bucket = of_flat_map (bucket_faults image meta) (buckets_of meta) fault here in
          bucket_in image meta bucket.0 fault table has bucket.1 bucket.2
      | inr there ↦ stray_in image meta strayed fault table has there
    ]

-- what is noted of a bucket is noted of the table
of_bucket : (image : List ℕ) (meta : HashMeta) (strayed : Bool) (b : ℕ) (fault : Fault) → Contains (buckets_of meta) b
    → Contains (bucket_faults image meta b) fault → Contains (table_noted image meta strayed) fault
of_bucket image meta strayed b fault listed at =
    Contains-append_left (flat_map (bucket_faults image meta) (buckets_of meta)) (stray_faults image meta strayed) fault
    (in_flat_map (bucket_faults image meta) (buckets_of meta) b fault listed at)

-- a repeat of a key is noted: where the table has a stray with all others, else with those of its bucket
repeat_noted : (image : List ℕ) (meta : HashMeta) (strayed : Bool) (pair : StoredPair) → strayed ≡ has_stray image meta
    → Contains (repeated (stored (table_told image meta))) pair → Contains (table_noted image meta strayed) (repeat_fault pair)
repeat_noted image meta true pair is at =
    Contains-append_right (flat_map (bucket_faults image meta) (buckets_of meta)) (stray_faults image meta true) (repeat_fault pair)
    (in_map repeat_fault (repeated (stored (table_told image meta))) pair at)
repeat_noted image meta false pair is at =
    let bucket = in_bucket image meta pair (sym is) at in
    of_bucket image meta false bucket.0 (repeat_fault pair) bucket.1
    (Contains-append_right (flat_map (pair_faults meta bucket.0) (bucket_told image meta bucket.0)) (repeat_faults (bucket_told image meta bucket.0))
    (repeat_fault pair) (in_map repeat_fault (repeated (stored (bucket_told image meta bucket.0))) pair bucket.2))

-- a row that holds for a pair of a bucket is noted
own_noted : (image : List ℕ) (meta : HashMeta) (strayed : Bool) (b : ℕ) (pair : StoredPair) (code : ℕ) → Contains (buckets_of meta) b
    → Contains (bucket_pairs (file_of image) meta b) pair → Contains (holding (pair_table (tests_of (file_of image) meta) b pair)) code
    → Contains (table_noted image meta strayed) (contents_fault pair.page code)
own_noted image meta strayed b pair code listed held holds =
    let t : Told = told image pair in
    let fault : Fault = contents_fault pair.page code in
    of_bucket image meta strayed b fault listed
    (Contains-append_left (flat_map (pair_faults meta b) (bucket_told image meta b)) (repeat_faults (bucket_told image meta b)) fault
    (in_flat_map (pair_faults meta b) (bucket_told image meta b) t fault
    (subst (λ ts. Contains ts t) (sym (bucket_is image meta b)) (in_map (told image) (bucket_pairs (file_of image) meta b) pair held))
    (subst (λ fs. Contains fs fault) (sym (pair_faults_are meta b t))
    (in_map (contents_fault pair.page) (holding (pair_table (tests_of (file_of image) meta) b pair)) code holds))))

-- each fault of the table is noted
covered : (image : List ℕ) (meta : HashMeta) (strayed : Bool) (fault : Fault) → IsTable image → HasMetadata (file_of image) (HashFields meta)
    → strayed ≡ has_stray image meta
    → Contains (database_faults (file_of image) (HashFields meta)) fault → Contains (table_noted image meta strayed) fault
unfolding database_faults
covered image meta strayed fault table has is at =
    let file : File = file_of image in
    let of = of_by_page 8 0 (file.last + 1) (λ p. holding (database_rows file (HashFields meta) p)) fault at in
    elim (page_holds (bucket_pairs file meta) (buckets_of meta) (tests_of file meta) (repeated (table_pairs file meta)) fault.page fault.code
    (subst (λ codes. Contains codes fault.code) (codes_are image meta fault.page table has) of.is_code)) [
      | inl (_, by, holds) ↦
          subst (Contains (table_noted image meta strayed)) (same_parts 8 fault.stage by.pair.page fault.page fault.code fault.code (sym of.same_stage) by.at
          refl)
          (own_noted image meta strayed by.bucket by.pair fault.code by.listed by.held holds)
      | inr (pair, held, at_page, nine) ↦
          subst (Contains (table_noted image meta strayed)) (same_parts 8 fault.stage pair.page fault.page 9 fault.code (sym of.same_stage) at_page (sym nine))
          (repeat_noted image meta strayed pair is (subst (λ ps. Contains (repeated ps) pair) (sym (table_stored image meta)) held))
    ]

-- what is noted of a table is each row at each page where it holds
pub all_noted : (image : List ℕ) (meta : HashMeta) (strayed : Bool) (before mid after : List Fault → Type 0) → IsTable image
    → HasMetadata (file_of image) (HashFields meta) → strayed ≡ has_stray image meta
    → Notes before mid (flat_map (bucket_faults image meta) (range_with_len 0 (meta.max_bucket + 1)))
    → Notes mid after (stray_faults image meta strayed) → NotesAll before after (database_faults (file_of image) (HashFields meta))
all_noted image meta strayed before mid after table has is one two = (
  table_noted image meta strayed,
  λ fault. (noted_in image meta strayed fault table has, covered image meta strayed fault table has is),
  notes_then before mid after (flat_map (bucket_faults image meta) (buckets_of meta)) (stray_faults image meta strayed) one two,
)
