-- The fields of metadata on which no row holds.
use Rattle.std.specs.Prelude.{◌^◌, ◌<◌}
use Rattle.bdb_law_sums.specs.of_image.declared.meta.Meta.{Meta}
use Rattle.bdb_law_sums.specs.of_image.declared.meta.Meta.TheVariants.{Btree, Hash, Queue}

-- a table has no more buckets than can be numbered: row 14 says that they are no more than the pages
abbrev pub HasFewBuckets : Meta → Type 0
HasFewBuckets (Btree meta) = Unit {0}
HasFewBuckets (Hash meta) = meta.max_bucket < 2 ^ 31
HasFewBuckets (Queue meta) = Unit {0}
