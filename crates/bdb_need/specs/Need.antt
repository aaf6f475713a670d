-- How many pages loading needs, for every list of sections. Source: docs/FORMAT.md, "Built trees", "Built tables", "Built queues" and
-- "Pages of a loaded file".
use Rattle.std.specs.Prelude.{◌≡◌, ℕ, ◌+◌, ◌-◌, ◌≤◌, ◌^◌, nat_lt, if◌then◌else◌, Bool, IsTrue, List, [], ◌∷◌, length, map, replicate, Option, is_some}
use Rattle.std.specs.Prelude.{unwrap_or}
use Rattle.std.specs.List.{All, sum_by}
use Rattle.bdb_mkhash.specs.of_format.declared.kinds.Kind.{Kind}
use Rattle.bdb_mkhash.specs.of_format.declared.kinds.Kind.TheVariants.{Btree, Recno, Hash, Queue}
use Rattle.bdb_mkhash.specs.of_format.declared.kinds.Order.TheVariants.{Little}
use Rattle.bdb_mkhash.specs.of_format.declared.settings.Settings.{Settings}
use Rattle.bdb_mkhash.specs.of_format.Terms.{is_page_size, pad4, plain_settings, records_per_page}
use Rattle.bdb_mkhash.specs.of_text_format.declared.pairs.Pair.{Pair}
use Rattle.bdb_mkhash.specs.of_text_format.declared.pairs.Key.TheVariants.{Bytes}
use Rattle.bdb_mkhash.specs.of_text_format.declared.pairs.TextPair.{TextPair}
use Rattle.bdb_mkhash.specs.of_text_format.declared.sections.Section.{Section}
use Rattle.bdb_mkhash.specs.of_text_format.Terms.{AscendFrom}
use Rattle.bdb_mkhash.specs.of_mktree.Lists.{IsTreeList}
use Rattle.bdb_mkhash.specs.Buckets.{table_size, table_units}
use Rattle.bdb_mkhash.specs.Table.{IsTableList}
use Rattle.bdb_mkqueue.specs.Layout.{queue_size}
use Rattle.bdb_need.specs.TreePages.{unlined_pairs, tree_pages}
use Rattle.bdb_settle.specs.Loaded.{loaded}

-- the pages of the database of a list, its metadata not counted
abbrev pub list_pages : Kind → Settings → List Pair → ℕ
list_pages Btree settings list = tree_pages settings list
list_pages Recno settings list = tree_pages settings list
list_pages Hash settings list = table_size settings.page_size settings.sorted (table_units list)
list_pages Queue settings list = queue_size (records_per_page settings.page_size settings.re_len) list

-- a section's settings with the page size of the file, which is that of the first section
abbrev pub sized : ℕ → Section → Settings
sized size section = record section.settings { page_size = size }

-- the pages of a section: one with its metadata, and those of its database
abbrev pub section_pages : ℕ → Section → ℕ
section_pages size section = 1 + list_pages section.settings.kind (sized size section) (unlined_pairs section.pairs)

-- The master is a btree without duplicates: its keys are the names, in byte order, each with four bytes of data.

abbrev pub master_settings : ℕ → Settings
master_settings size = plain_settings Btree size Little

abbrev pub name_in : Option (List ℕ) → List ℕ
name_in name = unwrap_or name []

-- whether bytes are few enough for a length of four bytes
abbrev pub is_short : List ℕ → Bool
is_short bytes = nat_lt (length bytes) (2 ^ 32)

abbrev pub name_pair : Section → TextPair
name_pair section = record { key = Bytes (name_in section.name); value = replicate 4 0; line = 0 }

abbrev pub master_pages : ℕ → List Section → ℕ
master_pages size sections = tree_pages (master_settings size) (loaded (master_settings size) (map name_pair sections))

-- all pages: with names there are those of the master before, with its metadata
abbrev pub need_of : List Section → ℕ
need_of [] = 0
need_of (first ∷ rest) =
    let size : ℕ = first.settings.page_size in
    (if is_some first.name then 1 + master_pages size (first ∷ rest) else 0) + sum_by (section_pages size) (first ∷ rest)

-- What is asked of sections: their lists are those of their kinds, in order.

abbrev pub IsListOf : Kind → Settings → List Pair → Type 0
IsListOf Btree settings list = IsTreeList settings list
IsListOf Recno settings list = IsTreeList settings list
IsListOf Hash settings list = IsTableList settings list
IsListOf Queue settings list = (pad4 (settings.re_len + 1) ≤ settings.page_size - 28) × AscendFrom 1 list

-- a section with its list
pub record IsSettled (size : ℕ) (section : Section) : Type 0 where
  pub list : IsListOf section.settings.kind (sized size section) (unlined_pairs section.pairs)

-- sections with their lists, of which there is one at least
pub record AreSettled (sections : List Section) : Type 0 where
  pub first : Section
  pub rest : List Section
  pub are : sections ≡ first ∷ rest
  pub legal : IsTrue (is_page_size first.settings.page_size)
  pub each : All (IsSettled first.settings.page_size) sections
