-- Sound images of one btree or recno. Source: docs/FORMAT.md, "Metadata pages", "Built trees" and "Databases of a file".
use Rattle.std.specs.Prelude.{◌≡◌, ℕ, ◌+◌, ◌*◌, IsTrue, true, false, List, [], ◌∷◌, length, take, None}
use Rattle.bdb_io.specs.of_format.declared.kinds.Kind.TheVariants.{Recno}
use Rattle.bdb_io.specs.of_format.declared.settings.Settings.{Settings}
use Rattle.bdb_io.specs.of_format.Terms.{BtreeFields, Metadata, btree_bytes, databases, file_of, head_of, is_page_size, list_of, settings_of, verdict_of}
use Rattle.bdb_text_format.specs.declared.pairs.Pair.{Pair}
use Rattle.bdb_text_format.specs.Terms.{listed}
use Rattle.bdb_need.specs.of_mkleaves.Layout.{AreTreesIn}
use Rattle.bdb_need.specs.of_mkleaves.Spread.{tree_size}
use Rattle.bdb_need.specs.of_mktree.Lists.{units_in}
use Rattle.bdb_need.specs.of_mktree.Units.{IsTreeKind, is_counted, leaf_type_of}
use Rattle.bdb_need.specs.TreePages.{tree_pages}
use Rattle.bdb_mkfile.specs.FileSettings.{tree_meta}

-- settings of a tree that don't go against each other
pub record IsTreeSettings (settings : Settings) : Type 0 where
  pub kind : IsTreeKind settings.kind
  pub page_size : IsTrue (is_page_size settings.page_size)
  -- sorted duplicates are duplicates, and where pairs are counted there are none
  pub sorted : settings.sorted ≡ true → settings.duplicates ≡ true
  pub counted : settings.recnum ≡ true → settings.duplicates ≡ false
  -- a record has one datum
  pub records : settings.kind ≡ Recno → settings.duplicates ≡ false

-- the metadata of the tree as page 0 spells it: its root is page 1, and the last page is the last one there is
abbrev pub tree_first : Settings → List Pair → List ℕ
tree_first settings pairs = btree_bytes settings.order settings.page_size 0 (tree_pages settings pairs) (tree_meta settings 1)

-- A sound image of one tree with these settings and this list, of as many pages as the list takes.
pub record IsTreeImage (settings : Settings) (pairs : List Pair) (image : List ℕ) : Type 0 where
  pub sound : verdict_of image ≡ None
  pub size : length image
      ≡ (1 + tree_size (leaf_type_of settings.kind) settings.page_size settings.sorted (units_in settings.kind pairs)) * settings.page_size
  -- page 0 has just these bytes
  pub first_is : take settings.page_size image ≡ tree_first settings pairs
  -- the units of the list are laid out on the tree under page 1, and the data of its keys on trees of their own
  pub laid_out : AreTreesIn (leaf_type_of settings.kind) image settings.page_size (is_counted settings.kind settings.recnum)
      (units_in settings.kind pairs) 1
  pub fields : Metadata
  pub fields_are : fields ≡ BtreeFields (tree_meta settings 1)
  pub alone : databases (file_of image) ≡ record { name = None; fields = fields } ∷ []
  pub settings_are : settings_of (head_of image).page_size (head_of image).order fields ≡ settings
  pub list : list_of (file_of image) fields ≡ listed pairs
