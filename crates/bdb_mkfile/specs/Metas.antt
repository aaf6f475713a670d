-- The metadata of databases under names, as their pages spell it, and the trees whose roots it names. Source: docs/FORMAT.md, "What the writing calls
-- spell", "Loading", "Built trees" and "Built tables".
use Rattle.std.specs.Prelude.{◌≡◌, ℕ, ◌+◌, true, List, [], ◌∷◌, length}
use Rattle.bdb_io.specs.of_format.declared.kinds.Kind.{Kind}
use Rattle.bdb_io.specs.of_format.declared.kinds.Kind.TheVariants.{Btree, Recno, Hash, Queue}
use Rattle.bdb_io.specs.of_format.declared.kinds.Order.{Order}
use Rattle.bdb_io.specs.of_format.declared.settings.Settings.{Settings}
use Rattle.bdb_io.specs.of_format.Terms.{head_of, page_bytes}
use Rattle.bdb_text_format.specs.declared.pairs.Pair.{Pair}
use Rattle.bdb_text_format.specs.declared.sections.Section.{Section}
use Rattle.bdb_need.specs.of_mkleaves.Layout.{AreTreesIn}
use Rattle.bdb_need.specs.of_mkleaves.declared.leaf_type.LeafType.TheVariants.{Pairs, Records}
use Rattle.bdb_need.specs.of_mktree.Lists.{units_in}
use Rattle.bdb_need.specs.of_law_buckets.Tables.{table_meta}
use Rattle.bdb_need.specs.of_mkhash.Buckets.{table_bits, table_units}
use Rattle.bdb_need.specs.TreePages.{unlined_pairs}
use Rattle.bdb_mkfile.specs.FileSettings.{own_settings}
use Rattle.bdb_mkfile.specs.declared.named_metadata.DatabaseMeta.{DatabaseMeta}
use Rattle.bdb_mkfile.specs.declared.named_metadata.DatabaseMeta.TheVariants.{Table, Tree}
use Rattle.bdb_mkfile.specs.Layout.{named_table_meta, named_tree_meta}
use Rattle.bdb_mkfile.specs.WrittenMetadata.{meta_bytes}

-- the metadata of the database of a list that begins at a page: the root of its tree, or its first bucket
abbrev pub meta_for : Kind → Settings → List Pair → ℕ → DatabaseMeta
meta_for Btree settings list first = Tree (named_tree_meta settings first)
meta_for Recno settings list first = Tree (named_tree_meta settings first)
meta_for Hash settings list first =
    Table (named_table_meta (table_meta settings first (table_bits settings.page_size (table_units list)))) (length list)
meta_for Queue settings list first = Tree (named_tree_meta settings first)

-- in an image the units of a list are laid out on the tree under a page, and the data of its keys on trees of their own; of a hash nothing is said
abbrev pub TreeIsIn : Kind → Settings → List ℕ → List Pair → ℕ → Type 0
TreeIsIn Btree settings image list root = AreTreesIn Pairs image settings.page_size settings.recnum (units_in Btree list) root
TreeIsIn Recno settings image list root = AreTreesIn Records image settings.page_size true (units_in Recno list) root
TreeIsIn Hash settings image list root = Unit {0}
TreeIsIn Queue settings image list root = Unit {0}

-- the settings of a section in a file of this page size and order
abbrev pub settings_in : ℕ → Order → Section → Settings
settings_in size order section = own_settings section.settings.kind size order section.settings

-- A page of an image is the metadata of a section: it has just these bytes, and the tree of the list stands under the root that it names.
pub record HasMeta (size : ℕ) (order : Order) (image : List ℕ) (last number : ℕ) (section : Section) : Type 0 where
  pub first : ℕ
  pub bytes : page_bytes (head_of image) image number
      ≡ meta_bytes order size number last (meta_for section.settings.kind (settings_in size order section) (unlined_pairs section.pairs) first)
  pub laid_out : TreeIsIn section.settings.kind (settings_in size order section) image (unlined_pairs section.pairs) first

-- the pages from a number on are those of sections, in their order
abbrev pub HaveMetas : ℕ → Order → List ℕ → ℕ → ℕ → List Section → Type 0
HaveMetas size order image last number [] = Unit {0}
HaveMetas size order image last number (section ∷ sections) =
    HasMeta size order image last number section × HaveMetas size order image last (number + 1) sections
