-- Sound images of databases under names. Source: docs/FORMAT.md, "Pages of a loaded file", "Metadata pages", "Databases of a file" and
-- "Stage 7, the master".
use Rattle.std.specs.Prelude.{◌≡◌, ◌⊎◌, ℕ, ◌+◌, ◌*◌, true, List, length, map, replicate, Some, None}
use Rattle.std.specs.List.{All, AllZip, sum_by}
use Rattle.bdb_io.specs.of_format.declared.kinds.Kind.TheVariants.{Btree, Hash}
use Rattle.bdb_io.specs.of_format.declared.kinds.Order.{Order}
use Rattle.bdb_io.specs.of_format.declared.settings.Settings.{Settings}
use Rattle.bdb_io.specs.of_format.Terms.{Database, ascends, btree_bytes, databases, file_of, head_of, list_of, page_bytes, settings_of, verdict_of}
use Rattle.bdb_text_format.specs.declared.pairs.Pair.{Pair}
use Rattle.bdb_text_format.specs.declared.pairs.Key.TheVariants.{Bytes}
use Rattle.bdb_text_format.specs.declared.sections.Section.{Section}
use Rattle.bdb_text_format.specs.Terms.{listed}
use Rattle.bdb_need.specs.of_mkleaves.Runs.{IsShort}
use Rattle.bdb_need.specs.of_law_buckets.Tables.{HasBuiltTable}
use Rattle.bdb_need.specs.TreePages.{unlined_pairs, tree_pages}
use Rattle.bdb_need.specs.Need.{IsListOf, master_settings, name_in, section_pages, sized}
use Rattle.bdb_mkfile.specs.FileSettings.{own_settings}
use Rattle.bdb_mkfile.specs.Trees.{IsTreeSettings}
use Rattle.bdb_mkfile.specs.Layout.{entries_from, named_tree_meta, settings_of_master}
use Rattle.bdb_mkfile.specs.Metas.{HaveMetas, TreeIsIn}

-- the settings of a section are those of a tree or a hash that don't go against each other, in a file of this page size
abbrev pub AreNamedSettings : Settings → Type 0
AreNamedSettings settings = IsTreeSettings settings ⊎ ((settings.kind ≡ Hash) × (settings.sorted ≡ true → settings.duplicates ≡ true))

-- a section with a name that fits its field, and with its list
pub record IsNamed (size : ℕ) (section : Section) : Type 0 where
  pub name : List ℕ
  pub name_is : section.name ≡ Some name
  pub short : IsShort name
  pub settings : AreNamedSettings (sized size section)
  pub list : IsListOf section.settings.kind (sized size section) (unlined_pairs section.pairs)

-- sections with names, in the byte order of these, none twice
pub record AreNamed (size : ℕ) (sections : List Section) : Type 0 where
  pub each : All (IsNamed size) sections
  pub ascend : ascends (map (λ (section : Section). name_in section.name) sections) ≡ true

-- the pages of the master of sections in the order of their names, its metadata not counted: each name has four bytes of data
abbrev pub name_entry : Section → Pair
name_entry section = record { key = Bytes (name_in section.name); value = replicate 4 0 }

abbrev pub names_pages : ℕ → List Section → ℕ
names_pages size sections = tree_pages (master_settings size) (map name_entry sections)

-- a database of an image is that of a section: it has its name, its list and its settings, in a file of this page size and order
pub record IsDatabaseOf (size : ℕ) (order : Order) (image : List ℕ) (section : Section) (database : Database) : Type 0 where
  pub name : database.name ≡ section.name
  pub settings_are : settings_of (head_of image).page_size (head_of image).order database.fields
      ≡ own_settings section.settings.kind size order section.settings
  pub list : list_of (file_of image) database.fields ≡ listed (unlined_pairs section.pairs)

-- the buckets of each hash of a file are as built: unsorted, and trees of data say how many data there are
abbrev pub HasBuiltTables : List ℕ → Type 0
HasBuiltTables image = All (λ (database : Database). HasBuiltTable (file_of image) database.fields) (databases (file_of image))

-- the last page of the image of sections, and the metadata of its master as page 0 spells it: its root is page 1
abbrev pub last_page : ℕ → List Section → ℕ
last_page size sections = names_pages size sections + sum_by (section_pages size) sections

abbrev pub master_first : ℕ → Order → List Section → List ℕ
master_first size order sections = btree_bytes order size 0 (last_page size sections) (named_tree_meta (settings_of_master size order) 1)

-- A sound image of sections under their names: it has the pages of the master and its metadata, those of each section and its metadata, and the
-- databases of the sections in the order of their names. Buckets are as built.
pub record IsNamedImage (size : ℕ) (order : Order) (sections : List Section) (image : List ℕ) : Type 0 where
  pub sound : verdict_of image ≡ None
  pub long : length image ≡ (1 + names_pages size sections + sum_by (section_pages size) sections) * size
  -- page 0 has just these bytes, and the names are laid out on the tree under page 1
  pub first_is : page_bytes (head_of image) image 0 ≡ master_first size order sections
  pub names_laid_out : TreeIsIn Btree (settings_of_master size order) image (entries_from (1 + names_pages size sections) sections) 1
  -- behind that tree the metadata pages follow each other
  pub metas : HaveMetas size order image (last_page size sections) (1 + names_pages size sections) sections
  pub databases : AllZip (IsDatabaseOf size order image) sections (databases (file_of image))
  pub tables : HasBuiltTables image
