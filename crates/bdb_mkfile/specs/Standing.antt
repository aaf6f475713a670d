-- Databases that were built one behind the other, before their metadata is written. Source: docs/FORMAT.md, "Pages of a loaded file".
use Rattle.std.specs.Prelude.{◌≡◌, ℕ, ◌+◌, ◌<◌, ◌≤◌, IsTrue, List, [], ◌∷◌, length, map, reverse, None}
use Rattle.bdb_io.specs.of_format.declared.kinds.Kind.TheVariants.{Btree}
use Rattle.bdb_io.specs.of_format.declared.metadata.BtreeMeta.{BtreeMeta}
use Rattle.bdb_io.specs.of_format.declared.settings.Settings.{Settings}
use Rattle.bdb_io.specs.of_format.Terms.{BtreeFields, File, ListKey, Metadata, is_zero, page_code, settings_of}
use Rattle.bdb_need.specs.of_law_grove.Growing.{IsCounted, IsLater}
use Rattle.bdb_need.specs.of_law_grove.Part.{IsPart, Part, between}
use Rattle.bdb_text_format.specs.declared.pairs.Pair.{Pair}
use Rattle.bdb_text_format.specs.declared.sections.Section.{Section}
use Rattle.bdb_text_format.specs.Terms.{listed}
use Rattle.bdb_need.specs.of_pack.Built.{Built, bytes_of, file_so_far}
use Rattle.bdb_need.specs.of_law_join.Filed.{IsSpelled}
use Rattle.bdb_need.specs.of_law_join.Written.{AreLegal}
use Rattle.bdb_need.specs.of_mkleaves.Layout.{HasPagesOf}
use Rattle.bdb_need.specs.of_mkleaves.Leaves.{KeepsAll}
use Rattle.bdb_need.specs.of_law_buckets.Tables.{HasBuiltTable}
use Rattle.bdb_need.specs.TreePages.{unlined_pairs}
use Rattle.bdb_need.specs.Need.{list_pages, sized}
use Rattle.bdb_mkfile.specs.FileSettings.{own_settings}
use Rattle.bdb_mkfile.specs.declared.named_metadata.DatabaseMeta.{DatabaseMeta}
use Rattle.bdb_mkfile.specs.declared.named_metadata.DatabaseMeta.TheVariants.{Table, Tree}
use Rattle.bdb_mkfile.specs.NamedImages.{names_pages}
use Rattle.bdb_mkfile.specs.Layout.{entries_from, named_tree_meta, settings_of_master}
use Rattle.bdb_mkfile.specs.Metas.{TreeIsIn, meta_for, settings_in}
use Rattle.bdb_mkfile.specs.WrittenMetadata.{IsWrittenOn, fields_of}

-- the pages from one number up to another, as the part of the database with this metadata and list
abbrev pub part_between : ℕ → ℕ → Metadata → List (ListKey × List ℕ) → Part
part_between from beyond fields list = record { pages = between from beyond; fields = fields; list = list }

-- they are this part in each later file, buckets being as built there, and none has a row of form
pub record HoldsPart (built : Built) (from beyond : ℕ) (fields : Metadata) (list : List (ListKey × List ℕ)) : Type 0 where
  pub there : beyond ≤ length built.pages
  pub formed : (p : ℕ) → from ≤ p → p < beyond → page_code built.order p (bytes_of built p) ≡ None
  pub part : (g : File) → IsCounted g → IsLater (between from beyond) (file_so_far built) g → IsPart g (part_between from beyond fields list)
  pub buckets : (g : File) → IsCounted g → IsLater (between from beyond) (file_so_far built) g → HasBuiltTable g fields

-- metadata of a part, where it is written on a page above page 0, is read as it is, and has no row of form
abbrev pub CanBeSpelled : ℕ → DatabaseMeta → Part → Type 0
CanBeSpelled beyond meta part = (built : Built) (number : ℕ) → AreLegal built → 1 ≤ number → number < length built.pages → beyond ≤ length built.pages
    → IsWrittenOn built number meta → IsSpelled built (record { meta = number; part = part })

-- the metadata of a hash counts so many pairs
abbrev pub Counts : DatabaseMeta → ℕ → Type 0
Counts (Tree meta) count = Unit {0}
Counts (Table meta elements) count = elements ≡ count

-- the database of a list was built behind all pages: it has as many pages as it takes, and this metadata, which says the settings
pub record IsDatabaseBuilt (settings : Settings) (list : List Pair) (old new : Built) (meta : DatabaseMeta) : Type 0 where
  pub kept : KeepsAll old new
  pub count : length new.pages ≡ length old.pages + list_pages settings.kind settings list
  pub counts : Counts meta (length list)
  pub meta_is : meta ≡ meta_for settings.kind settings list (length old.pages)
  pub tree : (image : List ℕ) → HasPagesOf new (between (length old.pages) (length new.pages)) image
      → TreeIsIn settings.kind settings image list (length old.pages)
  pub says : settings_of settings.page_size settings.order (fields_of meta) ≡ settings
  pub holds : HoldsPart new (length old.pages) (length new.pages) (fields_of meta) (listed list)
  pub spelled : CanBeSpelled (length new.pages) meta (part_between (length old.pages) (length new.pages) (fields_of meta) (listed list))

-- a database on the pages from one number up to another: its section and its metadata
pub record Laid : Type 0 where
  pub section : Section
  pub meta : DatabaseMeta
  pub from : ℕ
  pub beyond : ℕ

abbrev pub part_of : Laid → Part
part_of laid = part_between laid.from laid.beyond (fields_of laid.meta) (listed (unlined_pairs laid.section.pairs))

-- it stands there, has as many pages as its list takes, and its metadata says the settings of the section
pub record IsDatabaseLaid (built : Built) (laid : Laid) : Type 0 where
  pub count : laid.beyond ≡ laid.from + list_pages laid.section.settings.kind (sized built.size laid.section) (unlined_pairs laid.section.pairs)
  pub counts : Counts laid.meta (length (unlined_pairs laid.section.pairs))
  pub meta_is : laid.meta
      ≡ meta_for laid.section.settings.kind (settings_in built.size built.order laid.section) (unlined_pairs laid.section.pairs) laid.from
  pub tree : (image : List ℕ) → HasPagesOf built (between laid.from laid.beyond) image
      → TreeIsIn laid.section.settings.kind (settings_in built.size built.order laid.section) image (unlined_pairs laid.section.pairs) laid.from
  pub says : settings_of built.size built.order (fields_of laid.meta)
      ≡ own_settings laid.section.settings.kind built.size built.order laid.section.settings
  pub holds : HoldsPart built laid.from laid.beyond (fields_of laid.meta) (listed (unlined_pairs laid.section.pairs))
  pub spelled : CanBeSpelled laid.beyond laid.meta (part_of laid)

-- the database of a section was built behind all pages
pub record IsSectionBuilt (section : Section) (old new : Built) (meta : DatabaseMeta) : Type 0 where
  pub kept : KeepsAll old new
  pub laid : IsDatabaseLaid new (record { section = section; meta = meta; from = length old.pages; beyond = length new.pages })

-- databases stand one behind the other, the first one last: on the pages from a number up to another
abbrev pub AreLaid : Built → ℕ → ℕ → List Laid → Type 0
AreLaid built base beyond [] = beyond ≡ base
AreLaid built base beyond (laid ∷ row) = (laid.beyond ≡ beyond) × IsDatabaseLaid built laid × AreLaid built base laid.from row

-- the databases of sections were built behind all pages, the first one last; their metadata comes in this order
pub record AreDatabasesBuilt (sections : List Section) (old new : Built) (metas : List DatabaseMeta) : Type 0 where
  pub kept : KeepsAll old new
  pub row : List Laid
  pub sections_are : map (λ (laid : Laid). laid.section) row ≡ sections
  pub metas_are : map (λ (laid : Laid). laid.meta) row ≡ reverse metas
  pub laid : AreLaid new (length old.pages) (length new.pages) row

-- so many zero pages were added
pub record AreAdded (old new : Built) (count : ℕ) : Type 0 where
  pub kept : KeepsAll old new
  pub many : length new.pages ≡ length old.pages + count
  pub zero_pages : (p : ℕ) → length old.pages ≤ p → p < length new.pages → IsTrue (is_zero (bytes_of new p))

-- the tree of the master of sections was built behind all pages: it names the pages from its end on, and has this metadata
pub record IsMasterBuilt (sections : List Section) (old new : Built) (meta : BtreeMeta) : Type 0 where
  pub kept : KeepsAll old new
  pub count : length new.pages ≡ length old.pages + names_pages old.size sections
  pub root : ℕ
  pub root_is : root ≡ length old.pages
  pub meta_is : meta ≡ named_tree_meta (settings_of_master old.size old.order) root
  pub tree : (image : List ℕ) → HasPagesOf new (between (length old.pages) (length new.pages)) image
      → TreeIsIn Btree (settings_of_master old.size old.order) image (entries_from (length new.pages) sections) root
  pub holds : HoldsPart new (length old.pages) (length new.pages) (BtreeFields meta) (listed (entries_from (length new.pages) sections))
