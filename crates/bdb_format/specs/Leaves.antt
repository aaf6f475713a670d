-- The leaves of trees, from left to right, and what their pages say of it. Source: docs/FORMAT.md, "References" and "Stage 6, chains and trees".
use Rattle.std.specs.Prelude.{ℕ, zero, suc, ◌==◌, ◌&&◌, not, Bool, true, false, List, [], ◌∷◌, map, Option, Some, None}
use Rattle.std.specs.List.{filter, flat_map, list_any}
use Rattle.bdb_format.specs.declared.pages.RecnoItem.{RecnoItem}
use Rattle.bdb_format.specs.declared.references.Sort.{Sort}
use Rattle.bdb_format.specs.declared.references.Sort.TheVariants.{Root, DuplicateRoot}
use Rattle.bdb_format.specs.Table.{Row, ◌:?◌}
use Rattle.bdb_format.specs.Page.{InternalItem, Page, Internal, RecnoInternal}
use Rattle.bdb_format.specs.File.{File, page_at, header_in, type_in}
use Rattle.bdb_format.specs.References.{has_type}
use Rattle.bdb_format.specs.Graph.{Owner, all_references}

-- the pages right below an internal page, in the order of its items; another page has none
abbrev pub children_in : Page → Option (List ℕ)
children_in (Internal page) = Some (map (λ (item : InternalItem). item.child) page.items)
children_in (RecnoInternal page) = Some (map (λ (item : RecnoItem). item.child) page.items)
children_in page = None

-- a leaf is its own, and an internal page has those of its children
abbrev pub leaves_under : (ℕ → List ℕ) → ℕ → Option (List ℕ) → List ℕ
leaves_under below p None = p ∷ []
leaves_under below p (Some children) = flat_map below children

-- the leaves at or below a page, from left to right, in so many levels
unfoldable pub leaves_in : ℕ → File → ℕ → List ℕ
leaves_in zero file p = p ∷ []
leaves_in (suc levels) file p = leaves_under (leaves_in levels file) p (children_in (page_at file p))

-- the leaves at or below a page, from left to right
abbrev pub leaves : File → ℕ → List ℕ
leaves file p = leaves_in (header_in (page_at file p)).level file p

abbrev pub is_root_reference : Sort → Bool
is_root_reference Root = true
is_root_reference DuplicateRoot = true
is_root_reference sort = false

-- the references to roots of trees: by metadata, and by data that are a set off the page
unfoldable pub root_references : File → List Owner
root_references file = filter (λ (owner : Owner). is_root_reference owner.reference.sort) (all_references file)

-- a leaf of a tree between the leaf before it and the one after it, 0 at the ends, and the sort of the reference to the tree's root
pub record LeafPlace : Type 0 where
  pub tree : Sort
  pub before : ℕ
  pub leaf : ℕ
  pub after : ℕ

abbrev pub first_or_zero : List ℕ → ℕ
first_or_zero [] = 0
first_or_zero (p ∷ ps) = p

-- the places of leaves in their order, the first of which comes after a page
abbrev pub places_from : Sort → ℕ → List ℕ → List LeafPlace
places_from sort before [] = []
places_from sort before (p ∷ ps) = record { tree = sort; before = before; leaf = p; after = first_or_zero ps } ∷ places_from sort p ps

-- the places of the leaves of all trees
unfoldable pub leaf_places : File → List LeafPlace
leaf_places file =
    flat_map (λ (owner : Owner). places_from owner.reference.sort 0 (leaves file owner.reference.target)) (root_references file)

-- the type that a leaf of a tree hasn't: one of sorted data below metadata, one of pairs below a set
abbrev pub wrong_leaf_types : Sort → List ℕ
wrong_leaf_types Root = 12 ∷ []
wrong_leaf_types DuplicateRoot = 5 ∷ []
wrong_leaf_types sort = []

abbrev pub is_wrong_leaf : File → LeafPlace → Bool
is_wrong_leaf file place = has_type (wrong_leaf_types place.tree) (type_in (page_at file place.leaf))

abbrev pub is_wrong_link : File → LeafPlace → Bool
is_wrong_link file place =
    not ((header_in (page_at file place.leaf)).previous == place.before && (header_in (page_at file place.leaf)).next == place.after)

-- the other rows of stage 6, at a leaf: LeafKind and LeafLink
abbrev pub tree_rows : File → ℕ → List (Row ℕ)
tree_rows file p =
    2 :? list_any (λ (place : LeafPlace). place.leaf == p && is_wrong_leaf file place) (leaf_places file)
    ∷ 3 :? list_any (λ (place : LeafPlace). place.leaf == p && is_wrong_link file place) (leaf_places file)
    ∷ []
