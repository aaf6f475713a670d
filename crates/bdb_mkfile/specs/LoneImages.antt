-- Sound images of one database without a name. Source: docs/FORMAT.md, "Metadata pages", "What the writing calls spell", "Built queues",
-- "Built tables" and "Databases of a file".
use Rattle.std.specs.Prelude.{◌≡◌, ℕ, ◌+◌, ◌*◌, List, [], ◌∷◌, length, take, None}
use Rattle.bdb_io.specs.of_format.declared.metadata.HashMeta.{HashMeta}
use Rattle.bdb_io.specs.of_format.declared.settings.Settings.{Settings}
use Rattle.bdb_io.specs.of_format.Terms.{HashFields, Metadata, QueueFields, databases, file_of, head_of, list_of, queue_bytes, records_per_page, settings_of}
use Rattle.bdb_io.specs.of_format.Terms.{table_bytes, verdict_of}
use Rattle.bdb_text_format.specs.declared.pairs.Pair.{Pair}
use Rattle.bdb_text_format.specs.Terms.{listed}
use Rattle.bdb_need.specs.of_law_buckets.Tables.{HasBuiltBuckets, table_meta}
use Rattle.bdb_need.specs.of_mkhash.Buckets.{table_bits, table_size, table_units}
use Rattle.bdb_need.specs.of_mkqueue.Layout.{queue_meta, queue_size}

-- A sound image of so many pages with one database, without a name: its metadata is this, says these settings, and gives this list. Page 0 has
-- these bytes.
pub record IsLoneImage (settings : Settings) (pairs : List Pair) (pages : ℕ) (first : List ℕ) (fields : Metadata) (image : List ℕ) : Type 0 where
  pub sound : verdict_of image ≡ None
  pub size : length image ≡ pages * settings.page_size
  pub first_is : take settings.page_size image ≡ first
  pub alone : databases (file_of image) ≡ record { name = None; fields = fields } ∷ []
  pub settings_are : settings_of (head_of image).page_size (head_of image).order fields ≡ settings
  pub list : list_of (file_of image) fields ≡ listed pairs

-- the pages of a queue, and its metadata as page 0 spells it; the last page is the last one there is
abbrev pub queue_pages : Settings → List Pair → ℕ
queue_pages settings pairs = queue_size (records_per_page settings.page_size settings.re_len) pairs

abbrev pub queue_first : Settings → List Pair → List ℕ
queue_first settings pairs = queue_bytes settings.order settings.page_size (queue_pages settings pairs) (queue_meta settings pairs)

-- the image of a queue with these settings and this list
abbrev pub IsQueueImage : Settings → List Pair → List ℕ → Type 0
IsQueueImage settings pairs image =
    IsLoneImage settings pairs (1 + queue_pages settings pairs) (queue_first settings pairs) (QueueFields (queue_meta settings pairs)) image

-- the pages of a table, its metadata, whose buckets begin on page 1, and the metadata as page 0 spells it: the elements are the pairs
abbrev pub table_pages : Settings → List Pair → ℕ
table_pages settings pairs = table_size settings.page_size settings.sorted (table_units pairs)

abbrev pub table_fields : Settings → List Pair → HashMeta
table_fields settings pairs = table_meta settings 1 (table_bits settings.page_size (table_units pairs))

abbrev pub table_first : Settings → List Pair → List ℕ
table_first settings pairs =
    table_bytes settings.order settings.page_size 0 (table_pages settings pairs) (length pairs) (table_fields settings pairs)

-- the image of a hash with these settings and this list, whose buckets are unsorted, and whose trees of data say how many data there are
pub record IsTableImage (settings : Settings) (pairs : List Pair) (image : List ℕ) : Type 0 where
  pub is : IsLoneImage settings pairs (1 + table_pages settings pairs) (table_first settings pairs) (HashFields (table_fields settings pairs)) image
  pub buckets : HasBuiltBuckets (file_of image) (table_fields settings pairs)
