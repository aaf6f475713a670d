-- What is so of the sections that a dump text is read as. Source: docs/FORMAT.md, "Read header" and "Reasons".
use Rattle.std.specs.Prelude.{◌≡◌, ℕ, ◌≤◌, ◌<◌, ◌^◌, ◌==◌, IsTrue, Bool, true, false, List, [], ◌∷◌, ◌++◌, length, Option}
use Rattle.std.specs.List.{All, list_any}
use Rattle.bdb_text_format.specs.of_format.declared.kinds.Kind.TheVariants.{Queue}
use Rattle.bdb_text_format.specs.of_format.declared.settings.Settings.{Settings}
use Rattle.bdb_text_format.specs.of_format.Terms.{is_name, is_page_size}
use Rattle.bdb_text_format.specs.declared.pairs.Key.{Key}
use Rattle.bdb_text_format.specs.declared.pairs.Key.TheVariants.{Bytes, Number}
use Rattle.bdb_text_format.specs.declared.pairs.TextPair.{TextPair}
use Rattle.bdb_text_format.specs.declared.sections.Section.{Section}
use Rattle.bdb_text_format.specs.Terms.{Reads, holds_records, name_missing}

-- whether a key is the number of a record
abbrev pub is_number : Key → Bool
is_number (Bytes bytes) = false
is_number (Number number) = true

abbrev pub key_length : Key → ℕ
key_length (Bytes bytes) = length bytes
key_length (Number number) = 0

-- a pair with a key of the kind; neither key nor datum has more bytes than this
pub record IsFitPair (numbered : Bool) (most : ℕ) (pair : TextPair) : Type 0 where
  pub key : is_number pair.key ≡ numbered
  pub key_length : key_length pair.key ≤ most
  pub length : length pair.value ≤ most

-- settings that don't go against each other, with a legal page size
pub record AreFitSettings (settings : Settings) : Type 0 where
  pub page_size : IsTrue (is_page_size settings.page_size)
  pub sorted : settings.sorted ≡ true → settings.duplicates ≡ true
  pub counted : settings.recnum ≡ true → settings.duplicates ≡ false
  pub records : holds_records settings.kind ≡ true → settings.duplicates ≡ false
  pub re_len : settings.re_len < 2 ^ 32
  -- the records of a queue have one length
  pub fixed : settings.kind ≡ Queue → settings.fixed ≡ true

-- a section of such settings and pairs
pub record IsFitSection (most : ℕ) (section : Section) : Type 0 where
  pub settings : AreFitSettings section.settings
  pub pairs : All (IsFitPair (holds_records section.settings.kind) most) section.pairs

-- the records of a queue have bytes
abbrev pub HasBytes : Section → Type 0
HasBytes section = section.settings.kind ≡ Queue → (section.settings.re_len == 0) ≡ false

-- behind others with these names, each section has a name of its own; the first may lack one, where none follows
abbrev pub AreNamedBehind : List (Option (List ℕ)) → List Section → Type 0
AreNamedBehind names [] = Unit {0}
AreNamedBehind names (section ∷ sections) =
    (name_missing names section.name ≡ false) × (list_any (is_name section.name) names ≡ false)
    × AreNamedBehind (names ++ (section.name ∷ [])) sections

-- sections that are fit to be loaded: there is one at least
pub record AreFit (most : ℕ) (sections : List Section) : Type 0 where
  pub some : (length sections == 0) ≡ false
  pub each : All (IsFitSection most) sections
  pub names : AreNamedBehind [] sections

-- the sections of a text are fit; no key and no datum has more bytes than the text
abbrev pub ReadSectionsAreFit : Type 0
ReadSectionsAreFit = (text : List ℕ) (sections : List Section) → Reads text sections → AreFit (length text) sections

-- nor does a text have a queue whose records have no bytes
abbrev pub ReadQueuesHaveBytes : Type 0
ReadQueuesHaveBytes = (text : List ℕ) (sections : List Section) → Reads text sections → All HasBytes sections
