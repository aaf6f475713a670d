-- The pages of a queue under metadata that is written over page 0, as the image of a file.
-- Source: docs/FORMAT.md, "Queue metadata", "What the writing calls spell", "Faults" and "Databases of a file".
use Rattle.std.specs.Prelude.{◌≡◌, ℕ, ◌-◌, List, [], ◌∷◌, length, None}
use Rattle.bdb_text_format.specs.of_format.declared.metadata.QueueMeta.{QueueMeta}
use Rattle.bdb_text_format.specs.of_format.declared.settings.Settings.{Settings}
use Rattle.bdb_text_format.specs.of_format.Terms.{QueueFields, databases, faults_of, file_of, list_of, queue_bytes, queue_fields, verdict_of}
use Rattle.bdb_text_format.specs.declared.pairs.Pair.{Pair}
use Rattle.bdb_text_format.specs.Terms.{listed}
use Rattle.bdb_law_join.specs.of_pack.Built.{Built, joined_pages, with_page}
use Rattle.bdb_law_join.specs.Written.{AreLegal}
use Rattle.bdb_mkqueue.specs.Building.{IsQueueBuilt}

-- the image of pages after queue metadata is written over page 0
pub record IsWrittenQueue (built : Built) (page : List ℕ) (meta : QueueMeta) (image : List ℕ) : Type 0 where
  pub pages : AreLegal built
  pub bytes : page ≡ queue_bytes built.order built.size (length built.pages - 1) meta
  pub fields : queue_fields built.order page ≡ meta
  pub image_is : image ≡ joined_pages (with_page built 0 page).pages

-- the file is sound, and has one database, without a name: a queue with this metadata, whose list is the given one
pub record IsSoundQueueOf (image : List ℕ) (meta : QueueMeta) (list : List Pair) : Type 0 where
  pub sound : faults_of image ≡ []
  pub verdict : verdict_of image ≡ None
  pub alone : databases (file_of image) ≡ record { name = None; fields = QueueFields meta } ∷ []
  pub listed_is : list_of (file_of image) (QueueFields meta) ≡ listed list

-- a queue that was built of a list is, under such metadata, a sound file with this list
abbrev pub WrittenQueuesAreSound : Type 0
WrittenQueuesAreSound =
    (settings : Settings) (list : List Pair) (old built : Built) (meta : QueueMeta) (page image : List ℕ) → IsQueueBuilt settings list old built meta
    → IsWrittenQueue built page meta image → IsSoundQueueOf image meta list
