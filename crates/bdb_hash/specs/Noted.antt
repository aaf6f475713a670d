-- The faults of a table's contents in the order in which they are noted, bucket by bucket. Source: docs/FORMAT.md, "Stage 8, contents".
use Rattle.std.specs.Prelude.{ℕ, ◌==◌, ◌&&◌, not, if◌then◌else◌, Bool, List, [], map, ◌+◌, ◌++◌}
use Rattle.std.specs.List.{flat_map, list_any, range_with_len}
use Rattle.bdb_ranks.specs.of_format.Terms.{HashFields, ascends, bucket_of_key, data_of, fault_at, fault_if, file_of, has_duplicates, is_duplicate, is_sorted}
use Rattle.bdb_ranks.specs.of_format.Terms.{is_wrong_set, repeated}
use Rattle.bdb_ranks.specs.of_format.declared.rows.ContentsRow.TheVariants.{Duplicates, DuplicateKind, DuplicateOrder, Bucket, KeyTwice}
use Rattle.bdb_ranks.specs.of_format.declared.rows.Row.TheVariants.{Contents}
use Rattle.bdb_ranks.specs.of_format.declared.kinds.Fault.{Fault}
use Rattle.bdb_ranks.specs.of_format.declared.metadata.HashMeta.{HashMeta}
use Rattle.bdb_buckets.specs.Repeat.{repeat_fault}
use Rattle.bdb_buckets.specs.Told.{stored, Told, bucket_told, table_told}

-- a stray: a pair of this bucket that isn't in the bucket of its key
abbrev pub is_stray : HashMeta → ℕ → Told → Bool
is_stray meta b told = not (bucket_of_key meta told.pair.key == b)

-- the bucket has a stray
abbrev pub has_stray_in : List ℕ → HashMeta → ℕ → Bool
has_stray_in image meta b = list_any (is_stray meta b) (bucket_told image meta b)

-- the table has a stray
abbrev pub has_stray : List ℕ → HashMeta → Bool
has_stray image meta = list_any (has_stray_in image meta) (range_with_len 0 (meta.max_bucket + 1))

-- the data of a pair are out of order, where they ought to be in order
abbrev pub is_unsorted : HashMeta → Told → Bool
is_unsorted meta told = is_sorted (HashFields meta) && not (ascends (data_of (file_of told.image) told.pair.data_item))

-- the faults of a pair by itself, which is a stray or isn't
abbrev pub told_faults : HashMeta → Bool → Told → List Fault
told_faults meta stray told =
    fault_if (Contents Duplicates) told.pair.page (not (has_duplicates (HashFields meta)) && is_duplicate told.pair)
    ++ fault_if (Contents DuplicateKind) told.pair.page (is_wrong_set (file_of told.image) (is_sorted (HashFields meta)) told.pair.data_item)
    ++ fault_if (Contents DuplicateOrder) told.pair.page (is_unsorted meta told)
    ++ fault_if (Contents Bucket) told.pair.page stray

-- the faults of a pair of a bucket by itself
abbrev pub pair_faults : HashMeta → ℕ → Told → List Fault
pair_faults meta b told = told_faults meta (is_stray meta b told) told

-- the faults of those of these pairs that have the key of an earlier one of them
abbrev pub repeat_faults : List Told → List Fault
repeat_faults pairs = map repeat_fault (repeated (stored pairs))

-- the faults of a bucket: of its pairs by themselves, and of repeats within it
abbrev pub bucket_faults : List ℕ → HashMeta → ℕ → List Fault
bucket_faults image meta b = flat_map (pair_faults meta b) (bucket_told image meta b) ++ repeat_faults (bucket_told image meta b)

-- the repeats of the whole table, which are looked for where it has a stray
abbrev pub stray_faults : List ℕ → HashMeta → Bool → List Fault
stray_faults image meta strayed = if strayed then repeat_faults (table_told image meta) else []
