-- The databases of a file: those that a master names, or the one on page 0. Source: docs/FORMAT.md, "Databases of a file" and "Stage 7, the master".
use Rattle.std.specs.Prelude.{ℕ, nat_lt, ◌==◌, ◌&&◌, not, if◌then◌else◌, Bool, true, false, List, [], ◌∷◌, length, Option, Some, None}
use Rattle.std.specs.List.{filter, list_any}
use Rattle.bdb_format.specs.declared.kinds.Order.TheVariants.{Big}
use Rattle.bdb_format.specs.declared.metadata.BtreeMeta.{BtreeMeta}
use Rattle.bdb_format.specs.Numbers.{number}
use Rattle.bdb_format.specs.Table.{Row, ◌:?◌}
use Rattle.bdb_format.specs.Page.{Content, Inline, Set, Chain, Tree, Unknown, BtreeFields, Page, Meta}
use Rattle.bdb_format.specs.Flags.{names_databases}
use Rattle.bdb_format.specs.File.{File, page_at}
use Rattle.bdb_format.specs.Graph.{is_meta}
use Rattle.bdb_format.specs.Chains.{value_of}
use Rattle.bdb_format.specs.Contents.{StoredPair, tree_pairs}
use Rattle.bdb_format.specs.ContentRows.{repeated}

-- the metadata of a master: btree metadata on page 0 with the flag of subdatabases
abbrev pub master_in : Page → Option BtreeMeta
master_in (Meta (BtreeFields meta)) = if names_databases meta then Some meta else None
master_in page = None

-- the live pairs of a master, where there is one
abbrev pub pairs_under : File → Option BtreeMeta → List StoredPair
pairs_under file None = []
pairs_under file (Some meta) = filter (λ (pair : StoredPair). pair.live) (tree_pairs file meta.root)

unfoldable pub master_pairs : File → List StoredPair
master_pairs file = pairs_under file (master_in (page_at file 0))

-- the page that four bytes name, big-endian in every file; other values name none
abbrev pub page_named : List ℕ → Option ℕ
page_named bytes = if length bytes == 4 then Some (number Big bytes) else None

-- the page that a pair of a master names: not by a set
abbrev pub named_by : File → Content → Option ℕ
named_by file (Inline bytes) = page_named bytes
named_by file (Set blocks) = None
named_by file (Chain head total) = page_named (value_of file (Chain head total))
named_by file (Tree root) = None
named_by file Unknown = None

abbrev pub is_page : Option ℕ → ℕ → Bool
is_page None p = false
is_page (Some named) p = named == p

abbrev pub is_none : Option ℕ → Bool
is_none None = true
is_none (Some named) = false

-- a metadata page above page 0
abbrev pub is_named_kind : File → ℕ → Bool
is_named_kind file p = nat_lt 0 p && is_meta (page_at file p)

-- the pairs that name a page
abbrev pub naming : File → ℕ → List StoredPair
naming file p = filter (λ (pair : StoredPair). is_page (named_by file pair.data_item) p) (master_pairs file)

-- a pair names a page, and that is no metadata page above page 0
abbrev pub misses_target : File → Option ℕ → Bool
misses_target file None = false
misses_target file (Some p) = not (is_named_kind file p)

-- stage 7: Unnamed, EntrySize, EntryTarget, NameTwice, MetaTwice
abbrev pub master_rows : File → ℕ → List (Row ℕ)
master_rows file p =
    let pairs : List StoredPair = master_pairs file in
    1 :? (is_named_kind file p && length (naming file p) == 0)
    ∷ 2 :? list_any (λ (pair : StoredPair). pair.page == p && is_none (named_by file pair.data_item)) pairs
    ∷ 3 :? list_any (λ (pair : StoredPair). pair.page == p && misses_target file (named_by file pair.data_item)) pairs
    ∷ 4 :? list_any (λ (pair : StoredPair). pair.page == p) (repeated pairs)
    ∷ 5 :? (is_named_kind file p && nat_lt 1 (length (naming file p)))
    ∷ []
