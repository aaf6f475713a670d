-- Trees that are being built: a builder with its pages, and the units that these hold. Source: docs/FORMAT.md, "Built trees".
use Rattle.std.specs.Prelude.{◌≡◌, ◌⊎◌, ℕ, ◌+◌, ◌<◌, ◌≤◌, IsTrue, false, List, [], ◌++◌, length, map, None}
use Rattle.std.specs.List.{All, flat_map}
use Rattle.bdb_text_format.specs.of_format.declared.metadata.BtreeMeta.{BtreeMeta}
use Rattle.bdb_text_format.specs.of_format.declared.settings.Settings.{Settings}
use Rattle.bdb_text_format.specs.of_format.Terms.{BtreeFields, File, ListKey, is_page_size, page_code, settings_of}
use Rattle.bdb_mkleaves.specs.of_law_grove.Growing.{IsCounted, IsLater}
use Rattle.bdb_mkleaves.specs.of_law_grove.Part.{IsPart, between}
use Rattle.bdb_mkleaves.specs.of_pack.Built.{Built, bytes_of, file_so_far}
use Rattle.bdb_mkleaves.specs.Counted.{AreCounted}
use Rattle.bdb_mkleaves.specs.Filled.{rest_of}
use Rattle.bdb_mkleaves.specs.Layout.{HaveTreesOn, IsTreeOn}
use Rattle.bdb_mkleaves.specs.Leaves.{KeepsBefore}
use Rattle.bdb_mkleaves.specs.Moved.{first_leaf, numbers_of}
use Rattle.bdb_mkleaves.specs.Placed.{Placed, has_wrong_root, unit_of}
use Rattle.bdb_mkleaves.specs.Spread.{tree_size}
use Rattle.bdb_mkleaves.specs.Units.{TreeUnit, units_on}
use Rattle.bdb_mktree.specs.Units.{IsShortUnit, IsTreeKind, KeysAscend, Suits, is_counted, leaf_type_of}
use Rattle.bdb_mktree.specs.declared.builder.TreeBuilder.{TreeBuilder}

-- The units that the leaves hold on the pages, in order: of a btree each key with all its data, of a recno each record.
abbrev pub units_of : TreeBuilder → Built → List TreeUnit
units_of builder built = flat_map (units_on (file_so_far built) builder.settings.kind) (numbers_of builder.leaves)

-- the units on leaves
abbrev pub all_placed : List (List Placed) → List Placed → List Placed
all_placed closed units = flat_map (λ leaf. leaf) closed ++ units

-- A builder with its pages: from the first leaf on they are leaves with units that suit the settings, spread over them by what they take, and what
-- these units hold.
pub record Building (builder : TreeBuilder) (built : Built) : Type 0 where
  pub kind : IsTreeKind builder.settings.kind
  pub legal : IsTrue (is_page_size built.size)
  pub size : built.size ≡ builder.settings.page_size
  pub order : built.order ≡ builder.settings.order
  pub type : builder.leaves.leaf_type ≡ leaf_type_of builder.settings.kind
  -- the units on the closed leaves, and on the last
  pub closed : List (List Placed)
  pub units : List Placed
  pub counted : AreCounted builder.settings.sorted builder.leaves built (first_leaf builder.leaves) closed units
  pub some : (closed ≡ []) ⊎ (0 < length units)
  pub suit : All (Suits builder.settings) (map unit_of (all_placed closed units))
  pub keys : KeysAscend builder.settings (map unit_of (all_placed closed units))
  -- the trees of data have roots of the right type, in each later file
  pub roots : (g : File) → IsCounted g → IsLater (rest_of (first_leaf builder.leaves) builder.leaves built) (file_so_far built) g
      → All (λ unit. has_wrong_root g builder.settings.sorted unit ≡ false) (all_placed closed units)

-- Of units that come after those of a builder some were pushed, and these are left.
pub record ArePushed (builder next : TreeBuilder) (old new : Built) (all left : List TreeUnit) : Type 0 where
  pub building : Building next new
  pub settings : next.settings ≡ builder.settings
  pub first : first_leaf next.leaves ≡ first_leaf builder.leaves
  pub kept : KeepsBefore (first_leaf builder.leaves) old new
  pub units : units_of next new ++ left ≡ units_of builder old ++ all
  pub suit : All (Suits builder.settings) left
  pub short : All IsShortUnit left
  pub keys : KeysAscend builder.settings (units_of builder old ++ all)

-- none was pushed yet
abbrev pub CanBePushed : TreeBuilder → Built → List TreeUnit → Type 0
CanBePushed builder built units = ArePushed builder builder built built units units

-- A tree that was built of units on the pages from one on: that page is its root; they are as many as the units take, which are laid out on them as
-- docs/FORMAT.md says, and so are the trees of their data; and none has a row of form. In each later file, and for each metadata that says these
-- settings and names the root, they are the part of the database with this list.
pub record IsTreeBuilt (settings : Settings) (first : ℕ) (old new : Built) (units : List TreeUnit) (list : List (ListKey × List ℕ)) (root : ℕ)
    : Type 0 where
  pub root_is : root ≡ first
  pub kept : KeepsBefore first old new
  pub count : length new.pages ≡ first + tree_size (leaf_type_of settings.kind) new.size settings.sorted units
  pub laid_out : IsTreeOn (leaf_type_of settings.kind) new (between first (length new.pages)) (is_counted settings.kind settings.recnum) units root
  pub sets_laid_out : HaveTreesOn (leaf_type_of settings.kind) new (between first (length new.pages)) laid_out.tree
  pub formed : (p : ℕ) → first ≤ p → p < length new.pages → page_code new.order p (bytes_of new p) ≡ None
  pub part : (g : File) (meta : BtreeMeta) → IsCounted g → IsLater (between first (length new.pages)) (file_so_far new) g
      → settings_of new.size new.order (BtreeFields meta) ≡ settings → meta.root ≡ root
      → IsPart g (record { pages = between first (length new.pages); fields = BtreeFields meta; list = list })
