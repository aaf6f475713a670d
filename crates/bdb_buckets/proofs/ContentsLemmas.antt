-- A row of a table's contents that holds at a page is one of its faults.
use Rattle.std.proofs.Common.{◌≡◌, ℕ, ◌+◌, ◌≤◌, List, [], ◌∷◌, ◌++◌, arith, sym, ap, subst, Contains}
use Rattle.bdb_tree.specs.of_image.Linked.{HasMetadata}
use Rattle.bdb_tree.specs.of_format.declared.kinds.Fault.{Fault}
use Rattle.bdb_tree.specs.of_format.declared.metadata.HashMeta.{HashMeta}
use Rattle.bdb_tree.specs.of_format.Terms.{File, HashFields, StoredPair, bucket_pairs, database_faults, database_rows, file_of, hash_contents, repeated}
use Rattle.bdb_tree.specs.of_format.Terms.{table_pairs}
use Rattle.bdb_tree.specs.of_format.Verdict.{holding}
use Rattle.bdb_tree.proofs.of_format.MemberLemmas.{of_flat_map, of_range}
use Rattle.bdb_tree.proofs.of_format.VerdictLemmas.{in_by_page}
use Rattle.bdb_tree.proofs.of_format.RepeatLemmas.{of_repeated}
use Rattle.bdb_buckets.specs.Repeat.{repeat_fault}
use Rattle.bdb_buckets.specs.Told.{stored, table_told}
use Rattle.bdb_buckets.specs.Views.{IsTable}
use Rattle.bdb_buckets.proofs.PlainLemmas.{IsPlain, bucket_plain}
use Rattle.bdb_buckets.proofs.TableLemmas.{table_stored}
use Rattle.bdb_buckets.proofs.RowLemmas.{ArePlain, buckets_of, page_table, repeat_holds, repeat_row, rows_are, tests_of}

-- Which pairs there are.

pub few_buckets : (meta : HashMeta) (b : ℕ) → Contains (buckets_of meta) b → b ≤ meta.max_bucket
few_buckets meta b at = let within = of_range 0 (meta.max_bucket + 1) b at in omega (arith, within.1)

pub table_plain : (image : List ℕ) (meta : HashMeta) → IsTable image → HasMetadata (file_of image) (HashFields meta)
    → ArePlain (file_of image) (table_pairs (file_of image) meta)
unfolding table_pairs
table_plain image meta table has pair at =
    let found = of_flat_map (bucket_pairs (file_of image) meta) (buckets_of meta) pair at in
    bucket_plain image meta found.0 pair table has (few_buckets meta found.0 found.1) found.2

-- The faults of a table.

abbrev pub contents_fault : ℕ → ℕ → Fault
contents_fault page code = record { stage = 8; page = page; code = code }

-- what holds at a page
pub codes_are : (image : List ℕ) (meta : HashMeta) (p : ℕ) → IsTable image → HasMetadata (file_of image) (HashFields meta)
    → holding (hash_contents (file_of image) meta p)
    ≡ holding (page_table (bucket_pairs (file_of image) meta) (buckets_of meta) (tests_of (file_of image) meta) p
    ++ (repeat_row (repeated (table_pairs (file_of image) meta)) p ∷ []))
codes_are image meta p table has = ap holding (rows_are (file_of image) meta p (table_plain image meta table has))

pub in_faults : (image : List ℕ) (meta : HashMeta) (page code : ℕ) → page ≤ (file_of image).last
    → Contains (holding (hash_contents (file_of image) meta page)) code
    → Contains (database_faults (file_of image) (HashFields meta)) (contents_fault page code)
unfolding database_faults
in_faults image meta page code low at = in_by_page 8 0 ((file_of image).last + 1) page code
    (λ p. holding (database_rows (file_of image) (HashFields meta) p)) (omega arith) (omega arith) at

-- a pair that has the key of an earlier one is a fault at its page
pub repeat_in : (image : List ℕ) (meta : HashMeta) (pair : StoredPair) → IsTable image → HasMetadata (file_of image) (HashFields meta)
    → Contains (repeated (stored (table_told image meta))) pair
    → Contains (database_faults (file_of image) (HashFields meta)) (repeat_fault pair)
repeat_in image meta pair table has held =
    let file : File = file_of image in
    let again : Contains (repeated (table_pairs file meta)) pair = subst (λ ps. Contains (repeated ps) pair) (table_stored image meta) held in
    let plain : IsPlain file pair = table_plain image meta table has pair (of_repeated (table_pairs file meta) pair again) in
    in_faults image meta pair.page 9 plain.inside
    (subst (λ codes. Contains codes 9) (sym (codes_are image meta pair.page table has))
    (repeat_holds (bucket_pairs file meta) (buckets_of meta) (tests_of file meta) (repeated (table_pairs file meta)) pair again))
