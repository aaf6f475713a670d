-- The pages of a table under metadata that is written over page 0, as the image of a file.
-- Source: docs/FORMAT.md, "Hash metadata", "What the writing calls spell", "Faults" and "Databases of a file".
use Rattle.std.specs.Prelude.{◌≡◌, ℕ, ◌-◌, List, length}
use Rattle.bdb_io.specs.of_format.declared.metadata.HashMeta.{HashMeta}
use Rattle.bdb_io.specs.of_format.declared.settings.Settings.{Settings}
use Rattle.bdb_io.specs.of_format.Terms.{HashFields, ListKey, file_of, hash_fields, table_bytes}
use Rattle.bdb_need.specs.of_law_grove.Part.{Part, between}
use Rattle.bdb_need.specs.of_pack.Built.{Built, joined_pages, with_page}
use Rattle.bdb_need.specs.of_law_join.Alone.{IsSoundAlone}
use Rattle.bdb_need.specs.of_law_join.Written.{AreLegal}
use Rattle.bdb_need.specs.of_law_buckets.Tables.{HasBuiltBuckets, Keyed}
use Rattle.bdb_need.specs.of_mkhash.Table.{IsTableBuilt}

-- the image of pages after hash metadata is written over page 0, with a number of elements
pub record IsWrittenTable (built : Built) (page : List ℕ) (elements : ℕ) (meta : HashMeta) (image : List ℕ) : Type 0 where
  pub pages : AreLegal built
  pub bytes : page ≡ table_bytes built.order built.size 0 (length built.pages - 1) elements meta
  pub fields : hash_fields built.order page ≡ meta
  pub image_is : image ≡ joined_pages (with_page built 0 page).pages

-- the pages above page 0 as the part of the database with this metadata
abbrev pub table_part : Built → HashMeta → List (ListKey × List ℕ) → Part
table_part built meta list = record { pages = between 1 (length built.pages); fields = HashFields meta; list = list }

-- a table that was built behind page 0 is, under such metadata, a sound file with its list, whose buckets are as built
abbrev pub WrittenTablesAreSound : Type 0
WrittenTablesAreSound =
    (settings : Settings) (old built : Built) (units : List Keyed) (list : List (ListKey × List ℕ)) (meta : HashMeta) (elements : ℕ)
    (page image : List ℕ) → length old.pages ≡ 1 → IsTableBuilt settings old built units list meta → IsWrittenTable built page elements meta image
    → IsSoundAlone image (table_part built meta list) × HasBuiltBuckets (file_of image) meta
