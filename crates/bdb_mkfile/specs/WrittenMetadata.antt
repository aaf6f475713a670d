-- Metadata that is written over zero pages. Source: docs/FORMAT.md, "Metadata pages" and "What the writing calls spell".
use Rattle.std.specs.Prelude.{◌≡◌, ℕ, ◌+◌, ◌-◌, ◌<◌, ◌≤◌, ◌⊎◌, List, [], ◌∷◌, length, reverse}
use Rattle.bdb_io.specs.of_format.declared.kinds.Order.{Order}
use Rattle.bdb_io.specs.of_format.Terms.{BtreeFields, HashFields, Metadata, btree_bytes, btree_fields, hash_fields, table_bytes}
use Rattle.bdb_need.specs.of_pack.Built.{Built, bytes_of}
use Rattle.bdb_need.specs.of_law_join.Written.{AreLegal}
use Rattle.bdb_mkfile.specs.declared.named_metadata.DatabaseMeta.{DatabaseMeta}
use Rattle.bdb_mkfile.specs.declared.named_metadata.DatabaseMeta.TheVariants.{Table, Tree}

-- the fields that metadata says
abbrev pub fields_of : DatabaseMeta → Metadata
fields_of (Tree meta) = BtreeFields meta
fields_of (Table meta elements) = HashFields meta

-- the bytes of its page
abbrev pub meta_bytes : Order → ℕ → ℕ → ℕ → DatabaseMeta → List ℕ
meta_bytes order size number last (Tree meta) = btree_bytes order size number last meta
meta_bytes order size number last (Table meta elements) = table_bytes order size number last elements meta

-- they are read as these fields
abbrev pub ReadsBack : Order → List ℕ → DatabaseMeta → Type 0
ReadsBack order page (Tree meta) = btree_fields order page ≡ meta
ReadsBack order page (Table meta elements) = hash_fields order page ≡ meta

-- a page is metadata
pub record IsWrittenOn (built : Built) (number : ℕ) (meta : DatabaseMeta) : Type 0 where
  pub bytes : bytes_of built number ≡ meta_bytes built.order built.size number (length built.pages - 1) meta
  pub fields : ReadsBack built.order (bytes_of built number) meta

-- as many pages as before
pub record AreAsMany (old new : Built) : Type 0 where
  pub size : new.size ≡ old.size
  pub order : new.order ≡ old.order
  pub count : length new.pages ≡ length old.pages

-- one page of a legal file is metadata now, and the others are as they were
pub record IsPut (old new : Built) (number : ℕ) (meta : DatabaseMeta) : Type 0 where
  pub pages : AreLegal new
  pub many : AreAsMany old new
  pub written : IsWrittenOn new number meta
  pub same : (p : ℕ) → (p ≡ number → ⊥) → bytes_of new p ≡ bytes_of old p

-- the pages from a number on are metadata
abbrev pub AreWrittenFrom : Built → ℕ → List DatabaseMeta → Type 0
AreWrittenFrom built number [] = Unit {0}
AreWrittenFrom built number (meta ∷ metas) = IsWrittenOn built number meta × AreWrittenFrom built (number + 1) metas

-- the pages before a number are metadata now, the last one first, and the others are as they were
pub record ArePut (old new : Built) (beyond : ℕ) (metas : List DatabaseMeta) : Type 0 where
  pub many : AreAsMany old new
  pub written : AreWrittenFrom new (beyond - length metas) (reverse metas)
  pub same : (p : ℕ) → (p < beyond - length metas) ⊎ (beyond ≤ p) → bytes_of new p ≡ bytes_of old p
