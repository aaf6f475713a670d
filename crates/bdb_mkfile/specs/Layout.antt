-- The pages of a file of several databases: page 0, which is the metadata of the master; the tree of the master; the metadata of each database, in
-- the byte order of the names; and the pages of the databases. Source: docs/FORMAT.md, "Pages of a loaded file" and "Metadata pages".
use Rattle.std.specs.Prelude.{◌≡◌, ℕ, ◌+◌, List, [], ◌∷◌}
use Rattle.bdb_io.specs.of_format.declared.kinds.Order.{Order}
use Rattle.bdb_io.specs.of_format.declared.kinds.Order.TheVariants.{Big}
use Rattle.bdb_io.specs.of_format.declared.metadata.BtreeMeta.{BtreeMeta}
use Rattle.bdb_io.specs.of_format.declared.metadata.HashMeta.{HashMeta}
use Rattle.bdb_io.specs.of_format.declared.settings.Settings.{Settings}
use Rattle.bdb_io.specs.of_format.Terms.{settings_of, spelled}
use Rattle.bdb_text_format.specs.declared.pairs.Pair.{Pair}
use Rattle.bdb_text_format.specs.declared.pairs.Key.TheVariants.{Bytes}
use Rattle.bdb_text_format.specs.declared.sections.Section.{Section}
use Rattle.bdb_text_format.specs.Terms.{listed}
use Rattle.bdb_need.specs.of_law_join.Joining.{Joint}
use Rattle.bdb_need.specs.TreePages.{unlined_pairs}
use Rattle.bdb_need.specs.Need.{master_settings, name_in}
use Rattle.bdb_mkfile.specs.FileSettings.{flags_of, own_settings, tree_meta}

-- Metadata in a file of several databases has a flag that says so, besides those of its own: of a tree 0x20, of a hash 0x02. On page 0 the flag 0x20
-- makes a master; above it neither has a meaning.

abbrev pub named_tree_meta : Settings → ℕ → BtreeMeta
named_tree_meta settings root = record (tree_meta settings root) { flags = 0x20 + flags_of settings.kind settings }

abbrev pub named_table_meta : HashMeta → HashMeta
named_table_meta meta = record meta { flags = 0x02 + meta.flags }

-- the settings of the master in a file of this page size and order
abbrev pub settings_of_master : ℕ → Order → Settings
settings_of_master size order = record (master_settings size) { order = order }

-- the pair of a section in the master: its name, and the number of its metadata page, high byte first in every file
abbrev pub entry_of : ℕ → Section → Pair
entry_of number section = record { key = Bytes (name_in section.name); value = spelled 4 Big number }

-- those of sections whose metadata pages follow each other from a page on
abbrev pub entries_from : ℕ → List Section → List Pair
entries_from number [] = []
entries_from number (section ∷ sections) = entry_of number section ∷ entries_from (number + 1) sections

-- a metadata page with its part is that of a section, in a file of this page size and order
pub record IsJointOf (size : ℕ) (order : Order) (number : ℕ) (section : Section) (joint : Joint) : Type 0 where
  pub meta : joint.meta ≡ number
  pub settings : settings_of size order joint.part.fields ≡ own_settings section.settings.kind size order section.settings
  pub list : joint.part.list ≡ listed (unlined_pairs section.pairs)

-- those of sections whose metadata pages follow each other from a page on
abbrev pub AreJointsFrom : ℕ → Order → ℕ → List Section → List Joint → Type 0
AreJointsFrom size order number [] [] = Unit {0}
AreJointsFrom size order number [] (joint ∷ joints) = ⊥
AreJointsFrom size order number (section ∷ sections) [] = ⊥
AreJointsFrom size order number (section ∷ sections) (joint ∷ joints) =
    IsJointOf size order number section joint × AreJointsFrom size order (number + 1) sections joints
