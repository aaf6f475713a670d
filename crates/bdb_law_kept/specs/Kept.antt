-- What is kept where the dump of a sound file is loaded. Source: docs/FORMAT.md, "What loading does to a list" and "Dump text".
use Rattle.std.specs.Prelude.{◌≡◌, ℕ, ◌≤◌, ◌^◌, ◌==◌, ◌||◌, true, false, List, [], ◌∷◌, length, map, Some, None, unwrap_or}
use Rattle.std.specs.List.{All, Contains}
use Rattle.bdb_databases.specs.of_format.declared.kinds.Kind.TheVariants.{Queue}
use Rattle.bdb_databases.specs.of_format.declared.metadata.BtreeMeta.{BtreeMeta}
use Rattle.bdb_databases.specs.of_format.declared.settings.Settings.{Settings}
use Rattle.bdb_databases.specs.of_format.Terms.{Database, Metadata, ascends, databases, file_of, head_of, list_of, master_in, page_at, settings_of, verdict_of}
use Rattle.bdb_settle.specs.of_text_format.declared.pairs.TextPair.{TextPair}
use Rattle.bdb_settle.specs.of_text_format.Terms.{has_sets, is_queue, listed}
use Rattle.bdb_settle.specs.Loaded.{has_length, loaded}
use Rattle.bdb_settle.specs.LoadErrors.{is_too_wide, pair_errors}
use Rattle.bdb_text.specs.WrittenLaw.{AreBytes, CanBeWritten, CanStandTogether, pair_in}

-- settings that load as others do: of the same kind and page size, with sets in the same order, and a fixed length only where the others have it
pub record LoadsAlike (settings others : Settings) : Type 0 where
  pub kind : settings.kind ≡ others.kind
  pub page_size : settings.page_size ≡ others.page_size
  pub sorted : has_sets others.kind ≡ true → settings.sorted ≡ others.sorted
  pub duplicates : has_sets others.kind ≡ true → (settings.duplicates || settings.sorted) ≡ (others.duplicates || others.sorted)
  pub fixed : has_length settings ≡ true → (has_length others ≡ true) × (settings.re_len ≡ others.re_len)
  pub wide : is_queue others.kind ≡ true → settings.re_len ≡ others.re_len

-- the settings of a database of an image
abbrev pub settings_in : List ℕ → Metadata → Settings
settings_in image fields = settings_of (head_of image).page_size (head_of image).order fields

-- an image that is sound, and not too large
pub record IsSound (image : List ℕ) : Type 0 where
  pub size : length image ≤ 2 ^ 30
  pub sound : verdict_of image ≡ None

-- pairs of a text that are the list of a database of a sound image
pub record AreListOf (image : List ℕ) (database : Database) (pairs : List TextPair) : Type 0 where
  pub sound : IsSound image
  pub among : Contains (databases (file_of image)) database
  pub list_is : map pair_in pairs ≡ list_of (file_of image) database.fields

-- such pairs are loaded as they are
abbrev pub ListsAreKept : Type 0
ListsAreKept =
    (image : List ℕ) (database : Database) (settings : Settings) (pairs : List TextPair) → AreListOf image database pairs
    → LoadsAlike settings (settings_in image database.fields)
    → listed (loaded settings pairs) ≡ list_of (file_of image) database.fields

-- there is no error of loading in a pair, or in the settings of a queue in a file of its page size
pub record HasNoErrors (settings : Settings) (pairs : List TextPair) : Type 0 where
  pub each : All (λ pair. pair_errors settings pair ≡ []) pairs
  pub wide : is_too_wide settings.page_size settings ≡ false

-- such pairs have no error of loading
abbrev pub LoadsWithoutErrors : Type 0
LoadsWithoutErrors =
    (image : List ℕ) (database : Database) (settings : Settings) (pairs : List TextPair) → AreListOf image database pairs
    → LoadsAlike settings (settings_in image database.fields)
    → HasNoErrors settings pairs

-- a queue has no name, and stands alone
abbrev pub QueuesStandAlone : Type 0
QueuesStandAlone =
    (image : List ℕ) (database : Database) → IsSound image → Contains (databases (file_of image)) database
    → (settings_in image database.fields).kind ≡ Queue
    → (database.name ≡ None) × (databases (file_of image) ≡ database ∷ [])

-- a database of a sound image of bytes can be written, if it's no queue of records without bytes
abbrev pub CanAllBeWritten : Type 0
CanAllBeWritten =
    (image : List ℕ) (database : Database) → IsSound image → AreBytes image → Contains (databases (file_of image)) database
    → ((settings_in image database.fields).kind ≡ Queue → ((settings_in image database.fields).re_len == 0) ≡ false)
    → CanBeWritten database.name (settings_in image database.fields) (list_of (file_of image) database.fields)

-- the name of a database, empty where it has none
abbrev pub bytes_of_name : Database → List ℕ
bytes_of_name database = unwrap_or database.name []

-- the databases of a sound image can stand together
abbrev pub CanAllStandTogether : Type 0
CanAllStandTogether =
    (image : List ℕ) → IsSound image → (databases (file_of image) ≡ [] → ⊥)
    → CanStandTogether (map (λ (database : Database). database.name) (databases (file_of image)))

-- those that a master names are in the order of their names
abbrev pub AreInOrderOfNames : Type 0
AreInOrderOfNames =
    (image : List ℕ) (meta : BtreeMeta) → IsSound image → master_in (page_at (file_of image) 0) ≡ Some meta
    → ascends (map bytes_of_name (databases (file_of image))) ≡ true
