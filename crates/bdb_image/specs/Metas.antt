-- The fields of a metadata page, as a caller gets them. Source: docs/FORMAT.md, "Other pages".
use Rattle.std.specs.Prelude.{Option, Some, None}
use Rattle.bdb_image.specs.declared.meta.Meta.{Meta}
use Rattle.bdb_image.specs.declared.meta.Meta.TheVariants.{Btree, Hash, Queue}
use Rattle.bdb_faults.specs.of_format.Terms.{BtreeFields, HashFields, Meta as MetaPage, Metadata, Page, QueueFields}

abbrev pub meta_seen : Meta → Metadata
meta_seen (Btree meta) = BtreeFields meta
meta_seen (Hash meta) = HashFields meta
meta_seen (Queue meta) = QueueFields meta

-- the fields of a page, if it's metadata
abbrev pub meta_in : Page → Option Metadata
meta_in (MetaPage fields) = Some fields
meta_in page = None
