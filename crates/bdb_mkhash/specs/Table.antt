-- A table that was built of a list. Source: docs/FORMAT.md, "Built tables".
use Rattle.std.specs.Prelude.{◌≡◌, ℕ, ◌+◌, ◌<◌, ◌≤◌, List, length, map, None}
use Rattle.bdb_mktree.specs.of_format.declared.kinds.Kind.TheVariants.{Btree}
use Rattle.bdb_mktree.specs.of_format.declared.metadata.HashMeta.{HashMeta}
use Rattle.bdb_mktree.specs.of_format.declared.settings.Settings.{Settings}
use Rattle.bdb_mktree.specs.of_format.Terms.{File, HashFields, ListKey, page_code}
use Rattle.bdb_mktree.specs.of_law_grove.Growing.{IsCounted, IsLater}
use Rattle.bdb_mktree.specs.of_law_grove.Part.{IsPart, between}
use Rattle.bdb_mktree.specs.of_text_format.declared.pairs.Pair.{Pair}
use Rattle.bdb_mktree.specs.of_pack.Built.{Built, bytes_of, file_so_far}
use Rattle.bdb_mktree.specs.of_mkleaves.Leaves.{KeepsAll}
use Rattle.bdb_mktree.specs.Lists.{IsTreeList}
use Rattle.bdb_law_buckets.specs.Tables.{HasBuiltBuckets, Keyed, PlacedUnit, TableStands, table_meta, unit_of}
use Rattle.bdb_mkhash.specs.Buckets.{buckets_of, spread_bucket, table_bits, table_size}

-- a list in its order, with the rule that a btree of these settings has
abbrev pub IsTableList : Settings → List Pair → Type 0
IsTableList settings pairs = IsTreeList (record settings { kind = Btree }) pairs

-- A table of these keys was built behind all pages: the older pages are as they were; the new ones are as many as the keys take; none has a row of
-- form; its metadata has the number of buckets, the spares and the flags of the settings; each key stands in the bucket of its hash, on the page on
-- which its cost puts it, with its data; and in each later file the buckets are as built (unsorted, with sums), and the new pages are the part of the database
-- with this metadata and list.
pub record IsTableBuilt (settings : Settings) (old new : Built) (units : List Keyed) (list : List (ListKey × List ℕ)) (meta : HashMeta) : Type 0 where
  pub kept : KeepsAll old new
  pub count : length new.pages ≡ length old.pages + table_size old.size settings.sorted units
  pub formed : (p : ℕ) → length old.pages ≤ p → p < length new.pages → page_code new.order p (bytes_of new p) ≡ None
  pub fields : meta ≡ table_meta settings (length old.pages) (table_bits old.size units)
  pub pages : List (List (List PlacedUnit))
  pub spread : map (map (map unit_of)) pages ≡ map (spread_bucket old.size) (buckets_of (table_bits old.size units) units)
  pub stands : (g : File) → IsCounted g → IsLater (between (length old.pages) (length new.pages)) (file_so_far new) g
      → TableStands g settings.sorted (length old.pages) (length old.pages + length pages) (length new.pages) pages
  pub buckets : (g : File) → IsCounted g → IsLater (between (length old.pages) (length new.pages)) (file_so_far new) g → HasBuiltBuckets g meta
  pub part : (g : File) → IsCounted g → IsLater (between (length old.pages) (length new.pages)) (file_so_far new) g
      → IsPart g (record { pages = between (length old.pages) (length new.pages); fields = HashFields meta; list = list })
