-- Queues: a file of their kind with sound form is sound. Source: docs/FORMAT.md, "Faults" and "Databases of a file".
use Rattle.std.specs.Prelude.{◌≡◌, ℕ, List, [], ◌∷◌, None}
use Rattle.bdb_graph.specs.of_format.declared.metadata.FileKind.TheVariants.{Queue}
use Rattle.bdb_graph.specs.of_format.declared.metadata.QueueMeta.{QueueMeta}
use Rattle.bdb_graph.specs.of_format.Terms.{Meta, QueueFields, databases, faults_in, faults_of, file_of, page_at, verdict_of}

-- the file is sound, and has one database, a queue without a name
pub record IsSoundQueue (image : List ℕ) : Type 0 where
  pub sound : faults_of image ≡ []
  pub verdict : verdict_of image ≡ None
  pub meta : QueueMeta
  pub named : page_at (file_of image) 0 ≡ Meta (QueueFields meta)
  pub alone : databases (file_of image) ≡ record { name = None; fields = QueueFields meta } ∷ []

-- where no row of stages 1 and 2 holds for a queue, none of any stage does
abbrev pub QueuesAreSound : Type 0
QueuesAreSound = (image : List ℕ) → faults_in (1 ∷ 2 ∷ []) image ≡ [] → (file_of image).kind ≡ Queue → IsSoundQueue image
