-- The pairs of a table, bucket by bucket.
use Rattle.std.proofs.Common.{◌∷◌, map, refl, ◌∙◌, ap, ◌≡◌, ℕ, ◌+◌, List, [], ◌++◌, arith}
use Rattle.std.proofs.lemmas.List.{map-append, append-nil}
use Rattle.bdb_tree.specs.of_format.Terms.{HashFields, StoredPair, bucket_pages, bucket_pairs, file_of, first_page, head_of, pairs_of, structure_faults}
use Rattle.bdb_tree.specs.of_format.Terms.{table_pairs}
use Rattle.bdb_buckets.specs.Told.{joined_pages, page_told, stored, table_told, told, bucket_told}
use Rattle.bdb_buckets.proofs.RowLemmas.{buckets_of}
use Rattle.std.specs.List.{flat_map, range_with_len}
use Rattle.std.proofs.lemmas.Grind.{flat_map-append}
use Rattle.bdb_tree.specs.of_image.Linked.{HasMetadata, IsForest}
use Rattle.bdb_tree.proofs.of_graph.LinkedLemmas.{bucket_fits}
use Rattle.bdb_buckets.specs.Views.{IsTable}
use Rattle.bdb_tree.specs.of_format.declared.references.Sort.TheVariants.{Bucket}
use Rattle.bdb_tree.specs.of_format.declared.metadata.HashMeta.{HashMeta}
use Rattle.bdb_tree.proofs.of_graph.TargetLemmas.{is_no_queue}
use Rattle.bdb_tree.proofs.of_format.ListLemmas.{range_zero_more}

-- a file with a table has references
pub table_is : (image : List ℕ) (meta : HashMeta) → IsForest image → structure_faults (file_of image) ≡ []
    → HasMetadata (file_of image) (HashFields meta)
    → IsTable image
table_is image meta forest stage has = record {
  forest = forest;
  stage = stage;
  table = is_no_queue (file_of image) Bucket (first_page 0 meta.spares) (bucket_fits image (head_of image) meta 0 forest.formed has (omega arith));
}

-- the pairs of one more bucket
pub told_more : (image : List ℕ) (meta : HashMeta) (b : ℕ)
    → flat_map (bucket_told image meta) (range_with_len 0 (b + 1)) ≡ flat_map (bucket_told image meta)
    (range_with_len 0 b) ++ bucket_told image meta b
told_more image meta b = grind (arith, range_zero_more, flat_map-append, append-nil)

-- The pairs of a table, each with the file that it stands in.

page_flat : (image : List ℕ) (ps : List ℕ) → joined_pages (map (page_told image) ps) ≡ map (told image) (flat_map (pairs_of (file_of image)) ps)
page_flat image [] = refl
page_flat image (p ∷ ps) = grind (arith, map-append, page_flat image ps)

-- the pairs of a bucket
pub bucket_is : (image : List ℕ) (meta : HashMeta) (b : ℕ) → bucket_told image meta b ≡ map (told image) (bucket_pairs (file_of image) meta b)
bucket_is image meta b = page_flat image (bucket_pages (file_of image) meta b)

stored_told : (image : List ℕ) (pairs : List StoredPair) → stored (map (told image) pairs) ≡ pairs
stored_told image [] = refl
stored_told image (pair ∷ pairs) = ap (λ ps. pair ∷ ps) (stored_told image pairs)

told_flat : (image : List ℕ) (meta : HashMeta) (bs : List ℕ)
    → flat_map (bucket_told image meta) bs ≡ map (told image) (flat_map (bucket_pairs (file_of image) meta) bs)
told_flat image meta [] = refl
told_flat image meta (b ∷ bs) = grind (arith, bucket_is, map-append, told_flat image meta bs)

pub table_is_told : (image : List ℕ) (meta : HashMeta) → table_told image meta ≡ map (told image) (table_pairs (file_of image) meta)
unfolding table_pairs
table_is_told image meta = told_flat image meta (buckets_of meta)

-- the pairs of a table
pub table_stored : (image : List ℕ) (meta : HashMeta) → stored (table_told image meta) ≡ table_pairs (file_of image) meta
table_stored image meta = ap stored (table_is_told image meta) ∙ stored_told image (table_pairs (file_of image) meta)
