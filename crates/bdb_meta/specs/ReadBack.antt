-- What a writing call writes is read back as the same fields, where no row of the fault table holds for it.
-- Source: docs/FORMAT.md, "What the writing calls spell" and "Metadata pages".
use Rattle.std.specs.Prelude.{◌≡◌, ℕ, ◌^◌, ◌<◌, length, slice_index, None, Ok}
use Rattle.bdb_layout.specs.of_format.declared.kinds.Order.{Order}
use Rattle.bdb_layout.specs.of_format.declared.metadata.BtreeMeta.{BtreeMeta}
use Rattle.bdb_layout.specs.of_format.declared.metadata.HashMeta.{HashMeta}
use Rattle.bdb_layout.specs.of_format.declared.metadata.QueueMeta.{QueueMeta}
use Rattle.bdb_layout.specs.of_format.declared.metadata.FileKind.TheVariants.{Btree, Hash, Queue}
use Rattle.bdb_layout.specs.of_format.Terms.{answer, btree_bytes, btree_fields, faulted, first_row, form_fault, hash_fields, metadata_rows, queue_bytes}
use Rattle.bdb_layout.specs.of_format.Terms.{queue_fields, table_bytes}

-- each field fits four bytes
pub record BtreeFits (meta : BtreeMeta) : Type 0 where
  pub flags : meta.flags < 2 ^ 32
  pub minkey : meta.minkey < 2 ^ 32
  pub re_len : meta.re_len < 2 ^ 32
  pub re_pad : meta.re_pad < 2 ^ 32
  pub root : meta.root < 2 ^ 32
  pub free : meta.free < 2 ^ 32

-- each field but the spares fits four bytes
pub record TableFits (meta : HashMeta) : Type 0 where
  pub flags : meta.flags < 2 ^ 32
  pub max_bucket : meta.max_bucket < 2 ^ 32
  pub high_mask : meta.high_mask < 2 ^ 32
  pub low_mask : meta.low_mask < 2 ^ 32
  pub ffactor : meta.ffactor < 2 ^ 32
  pub free : meta.free < 2 ^ 32

-- there are 32 spares, and each fits four bytes
pub record SparesFit (meta : HashMeta) : Type 0 where
  pub count : length meta.spares ≡ 32
  pub each : (group : ℕ) → slice_index meta.spares group < 2 ^ 32

pub record QueueFits (meta : QueueMeta) : Type 0 where
  pub first : meta.first < 2 ^ 32
  pub current : meta.current < 2 ^ 32
  pub re_len : meta.re_len < 2 ^ 32
  pub re_pad : meta.re_pad < 2 ^ 32
  pub per_page : meta.per_page < 2 ^ 32

abbrev pub BtreeReadsBack : Type 0
BtreeReadsBack =
    (order : Order) (size number last : ℕ) (meta : BtreeMeta) → BtreeFits meta
    → first_row (metadata_rows order (btree_bytes order size number last meta) number 0 Btree) ≡ None
    → faulted form_fault (answer (metadata_rows order (btree_bytes order size number last meta) number 0 Btree)
    (btree_fields order (btree_bytes order size number last meta))) ≡ Ok meta

abbrev pub TableReadsBack : Type 0
TableReadsBack =
    (order : Order) (size number last elements : ℕ) (meta : HashMeta) → TableFits meta → SparesFit meta
    → first_row (metadata_rows order (table_bytes order size number last elements meta) number last Hash) ≡ None
    → faulted form_fault (answer (metadata_rows order (table_bytes order size number last elements meta) number last Hash)
    (hash_fields order (table_bytes order size number last elements meta))) ≡ Ok meta

abbrev pub QueueReadsBack : Type 0
QueueReadsBack =
    (order : Order) (size last : ℕ) (meta : QueueMeta) → QueueFits meta
    → first_row (metadata_rows order (queue_bytes order size last meta) 0 0 Queue) ≡ None
    → faulted form_fault (answer (metadata_rows order (queue_bytes order size last meta) 0 0 Queue) (queue_fields order (queue_bytes order size last meta)))
    ≡ Ok meta
