-- The text of a section is read as that section. Source: docs/FORMAT.md, "Dump text".
use Rattle.std.specs.List.{flat_map, list_any}
use Rattle.bdb_spelling.specs.of_format.Terms.{BytesKey, Database, ListKey, NumberKey, file_of, head_of, is_name, list_of, settings_of}
use Rattle.std.specs.Prelude.{⊤, is_some, unwrap_or, ◌≡◌, ℕ, ◌<◌, ◌^◌, ◌==◌, ◌&&◌, ◌||◌, Bool, true, false, List, [], ◌∷◌, map, Option, All}
use Rattle.bdb_spelling.specs.of_format.declared.settings.Settings.{Settings}
use Rattle.bdb_spelling.specs.of_text_format.Terms.{Reads, dump_text, header_lines, holds_records, is_btree, is_queue, legal_size, section_text}
use Rattle.bdb_spelling.specs.of_text_format.declared.pairs.Key.{Key}
use Rattle.bdb_spelling.specs.of_text_format.declared.pairs.Key.TheVariants.{Bytes, Number}
use Rattle.bdb_spelling.specs.of_text_format.declared.pairs.TextPair.{TextPair}
use Rattle.bdb_spelling.specs.of_text_format.declared.sections.Section.{Section}

-- each is a byte
abbrev pub AreBytes : List ℕ → Type 0
AreBytes bytes = All (λ (byte : ℕ). byte < 256) bytes

-- a key is a number exactly where the kind's keys are
abbrev pub IsKeyOf : Bool → ListKey → Type 0
IsKeyOf true (BytesKey bytes) = ⊥
IsKeyOf true (NumberKey n) = n < 2 ^ 32
IsKeyOf false (BytesKey bytes) = AreBytes bytes
IsKeyOf false (NumberKey n) = ⊥

-- a key of the kind, and a datum of bytes
abbrev pub IsPairOf : Bool → (ListKey × List ℕ) → Type 0
IsPairOf numbered (key, value) = IsKeyOf numbered key × AreBytes value

-- settings whose header would be in conflict
abbrev pub in_conflict : Settings → Bool
in_conflict settings = is_btree settings.kind && (settings.recnum && (settings.duplicates || settings.sorted)) || is_queue settings.kind
    && (settings.re_len == 0)

-- what the law asks of a section: a legal page size, no conflict, numbers of 32 bits, bytes, and keys of its kind
pub record CanBeWritten (name : Option (List ℕ)) (settings : Settings) (list : List (ListKey × List ℕ)) : Type 0 where
  pub page_size : legal_size settings.page_size ≡ true
  pub no_conflict : in_conflict settings ≡ false
  pub minkey : settings.minkey < 2 ^ 32
  pub ffactor : settings.ffactor < 2 ^ 32
  pub re_len : settings.re_len < 2 ^ 32
  pub re_pad : settings.re_pad < 2 ^ 32
  pub name_bytes : AreBytes (unwrap_or name [])
  pub pairs : All (IsPairOf (holds_records settings.kind)) list

-- a key as it stands in a list
abbrev pub key_in : Key → ListKey
key_in (Bytes bytes) = BytesKey bytes
key_in (Number number) = NumberKey number

-- a pair without its line
abbrev pub pair_in : TextPair → (ListKey × List ℕ)
pair_in pair = (key_in pair.key, pair.value)

-- the section has this name and list, and settings that show in the same header lines
pub record IsSectionOf (print : Bool) (name : Option (List ℕ)) (settings : Settings) (list : List (ListKey × List ℕ)) (section : Section) : Type 0 where
  pub name_is : section.name ≡ name
  pub list_is : map pair_in section.pairs ≡ list
  pub lines_are : header_lines print name section.settings ≡ header_lines print name settings

-- and the text is read as no other
abbrev pub WrittenIsRead : Type 0
WrittenIsRead =
    (print : Bool) (name : Option (List ℕ)) (settings : Settings) (list : List (ListKey × List ℕ)) → CanBeWritten name settings list
    → (section : Section) × Reads (section_text print name settings list) (section ∷ []) × IsSectionOf print name settings list section

-- Several sections.

-- a section that is written
pub record Written : Type 0 where
  pub name : Option (List ℕ)
  pub settings : Settings
  pub list : List (ListKey × List ℕ)

-- the law asks this of it
abbrev pub IsWritable : Written → Type 0
IsWritable one = CanBeWritten one.name one.settings one.list

-- its text
abbrev pub written_text : Bool → Written → List ℕ
written_text print one = section_text print one.name one.settings one.list

-- each has a name, which none behind it has
abbrev pub AreNamedApart : List (Option (List ℕ)) → Type 0
AreNamedApart [] = ⊤
AreNamedApart (name ∷ others) = (is_some name ≡ true) × (list_any (is_name name) others ≡ false) × AreNamedApart others

-- one section alone, or several that have names
abbrev pub CanStandTogether : List (Option (List ℕ)) → Type 0
CanStandTogether [] = ⊥
CanStandTogether (name ∷ []) = ⊤
CanStandTogether (name ∷ other ∷ others) = AreNamedApart (name ∷ other ∷ others)

-- as many sections, each of which is the one written
abbrev pub AreSectionsOf : Bool → List Written → List Section → Type 0
AreSectionsOf print [] [] = ⊤
AreSectionsOf print [] (section ∷ sections) = ⊥
AreSectionsOf print (one ∷ others) [] = ⊥
AreSectionsOf print (one ∷ others) (section ∷ sections) = IsSectionOf print one.name one.settings one.list section × AreSectionsOf print others sections

-- the texts of sections, one after another, are read as these sections
abbrev pub WrittenAreRead : Type 0
WrittenAreRead =
    (print : Bool) (all : List Written) → CanStandTogether (map (λ (one : Written). one.name) all) → All IsWritable all
    → (sections : List Section) × Reads (flat_map (written_text print) all) sections × AreSectionsOf print all sections

-- The dump text of databases of an image.

-- a database of an image as a section that is written
abbrev pub written_of : List ℕ → Database → Written
written_of image database = record {
  name = database.name;
  settings = settings_of (head_of image).page_size (head_of image).order database.fields;
  list = list_of (file_of image) database.fields;
}

-- it is read as these databases, where none keeps a section from being read and all stand together
abbrev pub DumpIsRead : Type 0
DumpIsRead =
    (print : Bool) (image : List ℕ) (all : List Database) → CanStandTogether (map (λ (database : Database). database.name) all)
    → All IsWritable (map (written_of image) all)
    → (sections : List Section) × Reads (dump_text print image all) sections × AreSectionsOf print (map (written_of image) all) sections
