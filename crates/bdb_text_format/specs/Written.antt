-- The dump text of databases, a section for each. Source: docs/FORMAT.md, "Dump text".
use Rattle.std.specs.Prelude.{ℕ, ◌==◌, ◌&&◌, ◌||◌, not, if◌then◌else◌, Bool, true, false, List, [], ◌∷◌, ◌++◌, map, Option, codes, is_some, decimal, unwrap_or}
use Rattle.std.specs.List.{flat_map}
use Rattle.bdb_places.specs.of_format.declared.kinds.Kind.{Kind}
use Rattle.bdb_places.specs.of_format.declared.kinds.Kind.TheVariants.{Btree, Recno, Hash, Queue}
use Rattle.bdb_places.specs.of_format.declared.kinds.Order.{Order}
use Rattle.bdb_places.specs.of_format.declared.kinds.Order.TheVariants.{Big, Little}
use Rattle.bdb_places.specs.of_format.declared.settings.Settings.{Settings}
use Rattle.bdb_places.specs.of_format.Terms.{BytesKey, Database, ListKey, NumberKey, Row, file_of, head_of, list_of, settings_of, ◌:?◌}
use Rattle.bdb_text_format.specs.LineEnd.{line}
use Rattle.bdb_text_format.specs.TextSpelling.{spelling}

-- Kinds.

abbrev pub is_btree : Kind → Bool
is_btree Btree = true
is_btree Recno = false
is_btree Hash = false
is_btree Queue = false

abbrev pub is_recno : Kind → Bool
is_recno Btree = false
is_recno Recno = true
is_recno Hash = false
is_recno Queue = false

abbrev pub is_hash : Kind → Bool
is_hash Btree = false
is_hash Recno = false
is_hash Hash = true
is_hash Queue = false

abbrev pub is_queue : Kind → Bool
is_queue Btree = false
is_queue Recno = false
is_queue Hash = false
is_queue Queue = true

-- the word for a kind
abbrev pub kind_text : Kind → List ℕ
kind_text Btree = codes "btree"
kind_text Recno = codes "recno"
kind_text Hash = codes "hash"
kind_text Queue = codes "queue"

-- The header of a section.

-- a header line: what stands before its equals sign, and what stands behind
pub record HeaderLine : Type 0 where
  pub name : List ℕ
  pub value : List ℕ

infix 75 ◌=:◌
abbrev pub ◌=:◌ : List ℕ → List ℕ → HeaderLine
name =: value = record { name = name; value = value }

-- the word for a spelling
abbrev pub format_text : Bool → List ℕ
format_text true = codes "print"
format_text false = codes "bytevalue"

-- the digits for an order of bytes
abbrev pub order_text : Order → List ℕ
order_text Little = codes "1234"
order_text Big = codes "4321"

-- whether the length of records and their pad byte are shown
abbrev pub shows_length : Settings → Bool
shows_length settings = is_queue settings.kind || is_recno settings.kind && settings.fixed && not (settings.re_len == 0)

-- whether a key may have several data
abbrev pub has_sets : Kind → Bool
has_sets kind = is_btree kind || is_hash kind

-- whether keys are numbers of records
abbrev pub holds_records : Kind → Bool
holds_records kind = is_recno kind || is_queue kind

-- the lines between the first of a header and the last, each with the test of where it is written
abbrev pub header_table : Bool → Option (List ℕ) → Settings → List (Row HeaderLine)
header_table print name settings =
    codes "format" =: format_text print :? true
    ∷ codes "database" =: spelling true (unwrap_or name []) :? is_some name
    ∷ codes "type" =: kind_text settings.kind :? true
    ∷ codes "db_pagesize" =: decimal settings.page_size :? true
    ∷ codes "db_lorder" =: order_text settings.order :? true
    ∷ codes "bt_minkey" =: decimal settings.minkey :? (is_btree settings.kind && not (settings.minkey == 2))
    ∷ codes "recnum" =: codes "1" :? (is_btree settings.kind && settings.recnum)
    ∷ codes "duplicates" =: codes "1" :? (has_sets settings.kind && (settings.duplicates || settings.sorted))
    ∷ codes "dupsort" =: codes "1" :? (has_sets settings.kind && settings.sorted)
    ∷ codes "h_ffactor" =: decimal settings.ffactor :? (is_hash settings.kind && not (settings.ffactor == 0))
    ∷ codes "re_len" =: decimal settings.re_len :? shows_length settings
    ∷ codes "re_pad" =: decimal settings.re_pad :? shows_length settings
    ∷ codes "renumber" =: codes "1" :? (is_recno settings.kind && settings.renumber)
    ∷ codes "keys" =: codes "1" :? holds_records settings.kind
    ∷ []

-- the entries whose test holds
abbrev pub written : List (Row HeaderLine) → List HeaderLine
written [] = []
written (row ∷ rows) = if row.holds then row.code ∷ written rows else written rows

abbrev pub entry_line : HeaderLine → List ℕ
entry_line entry = entry.name ++ 61 ∷ entry.value

abbrev pub version_line : List ℕ
version_line = codes "VERSION=3"

abbrev pub header_end : List ℕ
header_end = codes "HEADER=END"

abbrev pub data_end : List ℕ
data_end = codes "DATA=END"

-- all lines of a header
abbrev pub header_lines : Bool → Option (List ℕ) → Settings → List (List ℕ)
header_lines print name settings = version_line ∷ (map entry_line (written (header_table print name settings)) ++ header_end ∷ [])

unfoldable pub header_text : Bool → Option (List ℕ) → Settings → List ℕ
header_text print name settings = flat_map line (header_lines print name settings)

-- The data of a section.

-- the bytes of a key; those of a record's number are its decimal digits
abbrev pub key_bytes : ListKey → List ℕ
key_bytes (BytesKey bytes) = bytes
key_bytes (NumberKey number) = decimal number

-- a space and the spelling of bytes
abbrev pub data_line : Bool → List ℕ → List ℕ
data_line print bytes = 32 ∷ spelling print bytes

-- a line for the key, and one for its datum
abbrev pub pair_lines : Bool → (ListKey × List ℕ) → List (List ℕ)
pair_lines print (key, value) = data_line print (key_bytes key) ∷ data_line print value ∷ []

-- all lines of a section
abbrev pub section_lines : Bool → Option (List ℕ) → Settings → List (ListKey × List ℕ) → List (List ℕ)
section_lines print name settings list = header_lines print name settings ++ (flat_map (pair_lines print) list ++ data_end ∷ [])

-- the text of a database with this name, settings and list
unfoldable pub section_text : Bool → Option (List ℕ) → Settings → List (ListKey × List ℕ) → List ℕ
section_text print name settings list = flat_map line (section_lines print name settings list)

-- The text of the databases of a file.

abbrev pub database_text : Bool → List ℕ → Database → List ℕ
database_text print image database =
    section_text print database.name (settings_of (head_of image).page_size (head_of image).order database.fields) (list_of (file_of image) database.fields)

-- the sections of these databases of an image, one after another
unfoldable pub dump_text : Bool → List ℕ → List Database → List ℕ
dump_text print image all = flat_map (database_text print image) all
