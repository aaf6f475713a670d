-- Parts under the metadata pages that a master names. Source: docs/FORMAT.md, "Stage 7, the master" and "Databases of a file".
use Rattle.std.specs.Prelude.{◌≡◌, ℕ, ◌≤◌, true, false, List, [], ◌∷◌, length, Some}
use Rattle.std.specs.List.{AllZip, Contains, filter}
use Rattle.bdb_graph.specs.of_format.declared.metadata.BtreeMeta.{BtreeMeta}
use Rattle.bdb_graph.specs.of_format.Terms.{BtreeFields, BytesKey, Database, File, ListKey, Meta, databases, file_of, has_duplicates, is_key, is_page, list_of}
use Rattle.bdb_graph.specs.of_format.Terms.{names_databases, page_at, page_named}
use Rattle.bdb_law_join.specs.Joining.{HoldsLists, IsJoined, IsMetaOf, Joint}

-- an entry of the list of a master: a name, and the bytes that name a page
abbrev pub MasterPair : Type 0
MasterPair = ListKey × List ℕ

-- no name stands twice
abbrev pub AreNamesApart : List MasterPair → Type 0
AreNamesApart [] = Unit {0}
AreNamesApart (entry ∷ entries) = ((other : MasterPair) → Contains entries other → is_key entry.0 other.0 ≡ false) × AreNamesApart entries

-- entries name each metadata page above 0 once, and nothing else, under names of their own
pub record NamesMetas (joints : List Joint) (entries : List MasterPair) : Type 0 where
  pub nothing_else : (entry : MasterPair) → Contains entries entry → (p : ℕ) × (page_named entry.1 ≡ Some p) × (1 ≤ p) × IsMetaOf joints p
  pub once : (p : ℕ) → 1 ≤ p → IsMetaOf joints p → length (filter (λ (entry : MasterPair). is_page (page_named entry.1) p) entries) ≡ 1
  pub names : AreNamesApart entries

-- page 0 is the metadata of a master, whose keys have one value each, and these are its entries
pub record IsUnderMaster (file : File) (joints : List Joint) (meta : BtreeMeta) (entries : List MasterPair) : Type 0 where
  pub is : page_at file 0 ≡ Meta (BtreeFields meta)
  pub master : names_databases meta ≡ true
  pub plain : has_duplicates (BtreeFields meta) ≡ false
  pub list : list_of file (BtreeFields meta) ≡ entries
  pub named : NamesMetas joints entries

-- a database with the name of an entry, and the fields of the joint whose metadata page the entry names
pub record IsDatabase (joints : List Joint) (entry : MasterPair) (database : Database) : Type 0 where
  pub joint : Joint
  pub at : Contains joints joint
  pub key : List ℕ
  pub keyed : entry.0 ≡ BytesKey key
  pub name : database.name ≡ Some key
  pub names : page_named entry.1 ≡ Some joint.meta
  pub fields : database.fields ≡ joint.part.fields

-- the file is sound, each metadata page has the list of its part, and the databases are those that the entries name, in their order
pub record IsSoundUnderMaster (image : List ℕ) (joints : List Joint) (entries : List MasterPair) : Type 0 where
  pub holds : HoldsLists image joints
  pub named : AllZip (IsDatabase joints) entries (databases (file_of image))

abbrev pub JoinsAll : Type 0
JoinsAll =
    (image : List ℕ) (joints : List Joint) (meta : BtreeMeta) (entries : List MasterPair) → IsJoined image joints
    → IsUnderMaster (file_of image) joints meta entries → IsSoundUnderMaster image joints entries
