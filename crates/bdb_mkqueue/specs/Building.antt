-- Queues that are built behind a page of metadata. Source: docs/FORMAT.md, "Built queues".
use Rattle.std.specs.Prelude.{◌≡◌, ℕ, ◌+◌, ◌-◌, ◌*◌, ◌<◌, ◌≤◌, nat_lt, if◌then◌else◌, List, ◌∷◌, ◌++◌, length, replicate, None}
use Rattle.bdb_text_format.specs.of_format.declared.metadata.QueueMeta.{QueueMeta}
use Rattle.bdb_text_format.specs.of_format.declared.settings.Settings.{Settings}
use Rattle.bdb_text_format.specs.of_format.Terms.{File, QueueFields, abstract_page, first_row, four_at, header_bytes, list_of, overwritten, pad4, page_at}
use Rattle.bdb_text_format.specs.of_format.Terms.{queue_code, queue_fields, queue_rows, zeros}
use Rattle.bdb_text_format.specs.declared.pairs.Pair.{Pair}
use Rattle.bdb_text_format.specs.Terms.{listed}
use Rattle.bdb_law_join.specs.of_pack.Built.{Built, bytes_of, with_page}
use Rattle.bdb_mkqueue.specs.Layout.{queue_meta, queue_page, queue_size, records_header, slots_of}

-- The pages behind page 0 are those of the queue of a list, and no others.
pub record IsQueueOn (meta : QueueMeta) (list : List Pair) (built : Built) : Type 0 where
  pub count : length built.pages ≡ 1 + queue_size meta.per_page list
  pub pages : (p : ℕ) → 1 ≤ p → p < length built.pages
      → bytes_of built p ≡ queue_page built.order built.size meta.re_len p (slots_of list meta.per_page p)

-- pages of which page 0 is as it was
pub record KeepsFirst (old new : Built) : Type 0 where
  pub size : new.size ≡ old.size
  pub order : new.order ≡ old.order
  pub first : bytes_of new 0 ≡ bytes_of old 0

-- a page says this metadata, and no pages in an extent
pub record SaysQueue (built : Built) (meta : QueueMeta) (page : List ℕ) : Type 0 where
  pub size : length page ≡ built.size
  pub fields : queue_fields built.order page ≡ meta
  pub extent : four_at built.order page 92 ≡ 0

-- a file has these pages above page 0
pub record HasPages (built : Built) (file : File) : Type 0 where
  pub last : file.last + 1 ≡ length built.pages
  pub same : (p : ℕ) → 1 ≤ p → p ≤ file.last → page_at file p ≡ abstract_page built.order (bytes_of built p)

-- A queue that was built of a list: its pages are laid out as docs/FORMAT.md says, and none has a row of form; nor has a page that says the metadata.
-- In each file with these pages the queue with this metadata has the list.
pub record IsQueueBuilt (settings : Settings) (list : List Pair) (old new : Built) (meta : QueueMeta) : Type 0 where
  pub meta_is : meta ≡ queue_meta settings list
  pub kept : KeepsFirst old new
  pub laid_out : IsQueueOn meta list new
  pub formed : (p : ℕ) → 1 ≤ p → p < length new.pages → queue_code new.order p (bytes_of new p) ≡ None
  pub meta_formed : (page : List ℕ) → SaysQueue new meta page → first_row (queue_rows new.order page) ≡ None
  pub lists : (file : File) → HasPages new file → list_of file (QueueFields meta) ≡ listed list

-- While records are laid.

-- a page has room for its header and for its slots, of which there is one at least
pub record HasRoom (size : ℕ) (meta : QueueMeta) : Type 0 where
  pub some : 1 ≤ meta.per_page
  pub room : meta.per_page * pad4 (meta.re_len + 1) ≤ size - 28
  pub long : 512 ≤ size

-- with so many zero pages more
abbrev pub with_more : ℕ → Built → Built
with_more n built = record built { pages = built.pages ++ replicate n (zeros built.size) }

-- with the header of a page of records on a page
abbrev pub with_header : Built → ℕ → Built
with_header built p = with_page built p (overwritten (bytes_of built p) 0 (header_bytes built.order (records_header p)))

-- with a page for records, where there wasn't one yet
abbrev pub reached : Built → ℕ → Built
reached built p = if nat_lt p (length built.pages) then built else with_header (with_more (p + 1 - length built.pages) built) p

-- with a record in a slot
abbrev pub with_record : QueueMeta → Built → ℕ → ℕ → List ℕ → Built
with_record meta built p slot value =
    with_page built p (overwritten (bytes_of built p) (28 + slot * pad4 (meta.re_len + 1)) (3 ∷ value))
