-- The pages of a tree under btree metadata that is written over page 0, as the image of a file.
-- Source: docs/FORMAT.md, "Metadata pages", "What the writing calls spell", "Stage 1, the file" and "Stage 2, the form of a page".
use Rattle.std.specs.Prelude.{◌≡◌, ℕ, ◌-◌, ◌<◌, ◌≤◌, ◌^◌, IsTrue, false, List, length, None}
use Rattle.bdb_graph.specs.of_format.declared.metadata.BtreeMeta.{BtreeMeta}
use Rattle.bdb_graph.specs.of_format.declared.metadata.FileKind.TheVariants.{Btree}
use Rattle.bdb_graph.specs.of_format.Terms.{BtreeFields, File, ListKey, btree_bytes, btree_fields, file_of, first_row, head_of, head_rows, is_page_size}
use Rattle.bdb_graph.specs.of_format.Terms.{names_databases, page_code}
use Rattle.bdb_pack.specs.of_law_grove.Part.{IsPart, Part, between}
use Rattle.bdb_pack.specs.of_law_grove.Growing.{IsCounted, IsLater}
use Rattle.bdb_graph.specs.of_meta.RowGroups.{flag_rows}
use Rattle.bdb_pack.specs.Built.{AreWhole, Built, bytes_of, file_so_far, joined_pages, with_page}
use Rattle.bdb_pack.specs.Stored.{TellsPages}
use Rattle.bdb_law_join.specs.Alone.{IsSoundAlone}

-- Whole pages, joined, are read back as the file of these pages, where page 0 says their size, their order and their number, and is a btree's.
abbrev pub ImagesAreRead : Type 0
ImagesAreRead =
    (built : Built) (image : List ℕ) → AreWhole built → image ≡ joined_pages built.pages → TellsPages built image → (head_of image).kind ≡ Btree
    → file_of image ≡ file_so_far built

-- the bytes of a page spell these fields as metadata of a page of this number, and no row of flags holds for it
pub record SpellsMeta (built : Built) (number : ℕ) (page : List ℕ) (meta : BtreeMeta) : Type 0 where
  pub bytes : page ≡ btree_bytes built.order built.size number (length built.pages - 1) meta
  pub fields : btree_fields built.order page ≡ meta
  pub flags : first_row (flag_rows number meta.flags) ≡ None

-- whole pages of a legal size, at least one, and no more than page 0 can say
pub record AreLegal (built : Built) : Type 0 where
  pub legal : IsTrue (is_page_size built.size)
  pub some : 1 ≤ length built.pages
  pub few : length built.pages ≤ 2 ^ 32
  pub whole : AreWhole built

-- the image of such pages after btree metadata is written over page 0
pub record IsWritten (built : Built) (page : List ℕ) (meta : BtreeMeta) (image : List ℕ) : Type 0 where
  pub pages : AreLegal built
  pub spells : SpellsMeta built 0 page meta
  pub image_is : image ≡ joined_pages (with_page built 0 page).pages

-- page 0 of an image has no row of stage 1, and says what the pages are
pub record HasHead (built : Built) (image : List ℕ) : Type 0 where
  pub accepted : first_row (head_rows image) ≡ None
  pub tells : TellsPages built image
  pub kind : (head_of image).kind ≡ Btree

-- such an image has this head, and is read back as the file of its pages
abbrev pub WrittenPagesAreRead : Type 0
WrittenPagesAreRead =
    (built : Built) (page : List ℕ) (meta : BtreeMeta) (image : List ℕ) → IsWritten built page meta image
    → HasHead (with_page built 0 page) image × (file_of image ≡ file_so_far (with_page built 0 page))

-- all pages above page 0 as the part of a tree
abbrev pub tree_part : Built → BtreeMeta → List (ListKey × List ℕ) → Part
tree_part built meta list = record { pages = between 1 (length built.pages); fields = BtreeFields meta; list = list }

-- In each later file these pages are a part, and no row of form holds for any. The metadata names no free page, and isn't a master's.
pub record HoldsTree (built : Built) (meta : BtreeMeta) (list : List (ListKey × List ℕ)) : Type 0 where
  pub part : (g : File) → IsCounted g → IsLater (between 1 (length built.pages)) (file_so_far built) g → IsPart g (tree_part built meta list)
  pub formed : (p : ℕ) → 1 ≤ p → p < length built.pages → page_code built.order p (bytes_of built p) ≡ None
  pub no_free : meta.free ≡ 0
  pub no_master : names_databases meta ≡ false

-- a tree under such metadata is a sound file, whose one database has the list of the tree
abbrev pub WrittenTreesAreSound : Type 0
WrittenTreesAreSound =
    (built : Built) (page : List ℕ) (meta : BtreeMeta) (list : List (ListKey × List ℕ)) (image : List ℕ) → HoldsTree built meta list
    → IsWritten built page meta image → IsSoundAlone image (tree_part built meta list)
