-- What is so of the metadata of databases under names, and of the list of their master.
-- Source: docs/FORMAT.md, "Metadata pages", "Stage 2, the form of a page", "Stage 7, the master" and "Databases of a file".
use Rattle.std.specs.Prelude.{◌≡◌, ℕ, ◌+◌, ◌-◌, ◌<◌, ◌≤◌, ◌^◌, Bool, List, ◌∷◌, length, None}
use Rattle.std.specs.List.{AllZip}
use Rattle.bdb_io.specs.of_format.declared.kinds.Order.{Order}
use Rattle.bdb_io.specs.of_format.declared.metadata.HashMeta.{HashMeta}
use Rattle.bdb_io.specs.of_format.declared.settings.Settings.{Settings}
use Rattle.bdb_io.specs.of_format.Terms.{BtreeFields, File, HashFields, ListKey, databases, file_of, first_row, hash_fields, head_of, settings_of, table_bytes}
use Rattle.bdb_text_format.specs.declared.sections.Section.{Section}
use Rattle.bdb_text_format.specs.Terms.{listed}
use Rattle.bdb_need.specs.of_meta.RowGroups.{flag_rows}
use Rattle.bdb_need.specs.of_law_grove.Part.{IsPart}
use Rattle.bdb_need.specs.of_pack.Built.{Built, bytes_of}
use Rattle.bdb_need.specs.of_law_join.Filed.{IsSpelled}
use Rattle.bdb_need.specs.of_law_join.Joining.{HoldsLists, Joint}
use Rattle.bdb_need.specs.of_law_join.Masters.{IsDatabase, NamesMetas}
use Rattle.bdb_need.specs.of_law_join.Written.{AreLegal}
use Rattle.bdb_need.specs.of_mktree.Lists.{IsTreeList}
use Rattle.bdb_need.specs.of_law_buckets.Tables.{table_meta}
use Rattle.bdb_need.specs.TreePages.{tree_pages}
use Rattle.bdb_mkfile.specs.FileSettings.{file_settings}
use Rattle.bdb_mkfile.specs.Trees.{IsTreeSettings}
use Rattle.bdb_mkfile.specs.NamedImages.{AreNamed, IsDatabaseOf, names_pages}
use Rattle.bdb_mkfile.specs.Layout.{AreJointsFrom, entries_from, named_table_meta, named_tree_meta, settings_of_master}

-- Metadata.

-- the metadata of a hash under a name, spelled on its page, is read as it is and has no row of form
abbrev pub TablesAreSpelled : Type 0
TablesAreSpelled =
    (built : Built) (joint : Joint) (settings : Settings) (first bits elements : ℕ) → AreLegal built → 1 ≤ joint.meta
    → joint.meta < length built.pages → 1 ≤ bits → 1 ≤ first → 2 ^ bits + 1 ≤ length built.pages
    → let meta : HashMeta = named_table_meta (table_meta settings first bits) in
    joint.part.fields ≡ HashFields meta
    → bytes_of built joint.meta ≡ table_bytes built.order built.size joint.meta (length built.pages - 1) elements meta
    → hash_fields built.order (bytes_of built joint.meta) ≡ meta → IsSpelled built joint

-- the flag of a name means nothing for the part of a hash
abbrev pub TablesHaveNames : Type 0
TablesHaveNames =
    (g : File) (pages : ℕ → Bool) (settings : Settings) (first bits : ℕ) (list : List (ListKey × List ℕ))
    → IsPart g (record { pages = pages; fields = HashFields (table_meta settings first bits); list = list })
    → IsPart g (record { pages = pages; fields = HashFields (named_table_meta (table_meta settings first bits)); list = list })

-- metadata of a tree under a name says its settings, and breaks no row of flags on a page above page 0
abbrev pub TreesHaveNames : Type 0
TreesHaveNames =
    (settings : Settings) (root number : ℕ) → IsTreeSettings settings → 1 ≤ number
    → let own : Settings = file_settings settings in
    (settings_of own.page_size own.order (BtreeFields (named_tree_meta own root)) ≡ own)
    × (first_row (flag_rows number (named_tree_meta own root).flags) ≡ None)

-- The list of the master.

-- it is one that a tree can be built of
abbrev pub EntriesAreListed : Type 0
EntriesAreListed =
    (size : ℕ) (order : Order) (number : ℕ) (sections : List Section) → AreNamed size sections
    → IsTreeList (settings_of_master size order) (entries_from number sections)

-- how many pages its tree has doesn't depend on the numbers in it
abbrev pub EntriesTakePages : Type 0
EntriesTakePages =
    (size : ℕ) (order : Order) (number : ℕ) (sections : List Section)
    → tree_pages (settings_of_master size order) (entries_from number sections) ≡ names_pages size sections

-- it names the metadata page of each section, and nothing else
abbrev pub EntriesNameMetas : Type 0
EntriesNameMetas =
    (size : ℕ) (order : Order) (number : ℕ) (sections : List Section) (top : Joint) (joints : List Joint) → AreNamed size sections → 1 ≤ number
    → number + length sections ≤ 2 ^ 32 → top.meta ≡ 0 → AreJointsFrom size order number sections joints
    → NamesMetas (top ∷ joints) (listed (entries_from number sections))

-- the databases that it names are those of the sections
abbrev pub EntriesNameDatabases : Type 0
EntriesNameDatabases =
    (size : ℕ) (order : Order) (number : ℕ) (sections : List Section) (top : Joint) (joints : List Joint) (image : List ℕ) → AreNamed size sections
    → 1 ≤ number → number + length sections ≤ 2 ^ 32 → top.meta ≡ 0 → AreJointsFrom size order number sections joints
    → (head_of image).page_size ≡ size → (head_of image).order ≡ order → HoldsLists image (top ∷ joints)
    → AllZip (IsDatabase (top ∷ joints)) (listed (entries_from number sections)) (databases (file_of image))
    → AllZip (IsDatabaseOf size order image) sections (databases (file_of image))
