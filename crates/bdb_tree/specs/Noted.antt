-- The faults of leaves in the order in which they are noted, tree by tree. Source: docs/FORMAT.md, "Faults".
use Rattle.std.specs.Prelude.{ℕ, ◌+◌, ◌-◌, ◌*◌, ◌/◌, ◌==◌, if◌then◌else◌, Bool, true, false, List, [], ◌++◌, get_or, length}
use Rattle.std.specs.Prelude.{slice_index, Option, Some, None}
use Rattle.std.specs.List.{flat_map, range_with_len}
use Rattle.bdb_overflow.specs.of_format.declared.kinds.Fault.{Fault}
use Rattle.bdb_overflow.specs.of_format.declared.references.Sort.{Sort}
use Rattle.bdb_overflow.specs.of_format.declared.references.Sort.TheVariants.{DuplicateRoot, Root}
use Rattle.bdb_overflow.specs.of_format.Terms.{BtreeFields, Content, DupLeaf, File, Hash, Item, Leaf, LeafPlace, Meta, Page, RecnoLeaf, Tree, fault_if}
use Rattle.bdb_overflow.specs.of_format.Terms.{is_wrong_leaf, is_wrong_link, leaves, no_item, page_at, places_from}
use Rattle.bdb_overflow.specs.of_image.Linked.{meta_pages}
use Rattle.bdb_overflow.specs.of_format.declared.rows.Row.TheVariants.{Structure}
use Rattle.bdb_overflow.specs.of_format.declared.rows.StructureRow.TheVariants.{LeafKind, LeafLink}

-- a leaf of a tree
abbrev pub is_leaf_page : Page → Bool
is_leaf_page (Leaf page) = true
is_leaf_page (RecnoLeaf page) = true
is_leaf_page (DupLeaf page) = true
is_leaf_page page = false

-- the place of leaf i of a tree: between its neighbours, 0 at the ends
abbrev pub place_in : Sort → List ℕ → ℕ → LeafPlace
place_in sort pages i = record {
  tree = sort;
  before = if i == 0 then 0 else slice_index pages (i - 1);
  leaf = slice_index pages i;
  after = slice_index pages (i + 1);
}

-- the faults of a leaf at its place
abbrev pub place_faults : File → LeafPlace → List Fault
place_faults file place = fault_if (Structure LeafKind) place.leaf (is_wrong_leaf file place)
    ++ fault_if (Structure LeafLink) place.leaf (is_wrong_link file place)

-- those of the leaves of the tree with this root, if there is one
abbrev pub root_faults : File → Sort → Option ℕ → List Fault
root_faults file sort None = []
root_faults file sort (Some root) = flat_map (place_faults file) (places_from sort 0 (leaves file root))

-- the items of a page that stand in pairs
abbrev pub paired : Page → List Item
paired (Leaf page) = page.items
paired (Hash page) = page.items
paired page = []

-- how many pairs a page has
abbrev pub pair_count : Page → ℕ
pair_count page = length (paired page) / 2

-- the root of a set off the page
abbrev pub set_root : Content → Option ℕ
set_root (Tree root) = Some root
set_root content = None

-- the root that the data of pair i name, and the root that metadata names
abbrev pub data_root : Page → ℕ → Option ℕ
data_root page i = set_root (get_or (paired page) (2 * i + 1) no_item).content

abbrev pub meta_root : Page → Option ℕ
meta_root (Meta (BtreeFields meta)) = Some meta.root
meta_root page = None

-- the faults of the set that data of a page name
abbrev pub data_faults : File → Page → ℕ → List Fault
data_faults file page i = root_faults file DuplicateRoot (data_root page i)

-- those of the sets of its first pairs
abbrev pub set_faults : File → Page → ℕ → List Fault
set_faults file page pairs = flat_map (data_faults file page) (range_with_len 0 pairs)

-- the faults of the trees that a page names: by metadata, and by data that are sets off the page
abbrev pub meta_faults : File → ℕ → List Fault
meta_faults file p = root_faults file Root (meta_root (page_at file p))

abbrev pub held_sets : File → ℕ → List Fault
held_sets file p = set_faults file (page_at file p) (pair_count (page_at file p))

abbrev pub held_faults : File → ℕ → List Fault
held_faults file p = meta_faults file p ++ held_sets file p

-- the faults of all trees, those of metadata before those of sets
abbrev pub by_part : File → List Fault
by_part file = flat_map (meta_faults file) (meta_pages file) ++ flat_map (held_sets file) (range_with_len 0 (file.last + 1))
