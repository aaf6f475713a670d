-- What salvage keeps of a sound file: all that its databases list. Source: docs/FORMAT.md, "Salvage".
use Rattle.std.specs.Prelude.{◌≡◌, ◌≢◌, ◌^◌, ◌≤◌, ℕ, Bool, false, List, [], length}
use Rattle.std.specs.List.{count_by}
use Rattle.bdb_survey.specs.of_format.declared.metadata.FileKind.TheVariants.{Queue}
use Rattle.bdb_survey.specs.of_format.Terms.{BytesKey, File, ListKey, NumberKey, faults_of, file_of}
use Rattle.bdb_survey.specs.Salvage.{loose, stored}
use Rattle.bdb_survey.specs.of_law_sums.Databases.{all_lists}
use Rattle.bdb_law_whole.specs.Guessed.{guessed}
use Rattle.bdb_law_whole.specs.Whole.{AreBytes}

-- a test of pairs on an entry of a list: it passes no numbered record
abbrev pub on_pair : (List ℕ × List ℕ → Bool) → ListKey × List ℕ → Bool
on_pair test (BytesKey key, value) = test (key, value)
on_pair test (NumberKey number, value) = false

-- a test of values on an entry of a list: it passes no key of bytes
abbrev pub on_record : (List ℕ → Bool) → ListKey × List ℕ → Bool
on_record test (BytesKey key, value) = false
on_record test (NumberKey number, value) = test value

-- As many stored pairs of one file pass a test as pairs of the lists of all databases of another do, whatever the test, and as many loose records as
-- numbered records of those lists. A test may ask for one pair or one value: so each is stored as often as it's listed.
pub record KeepsLists (salvaged file : File) : Type 0 where
  pub pairs : (test : List ℕ × List ℕ → Bool) → count_by test (stored salvaged) ≡ count_by (on_pair test) (all_lists file)
  pub records : (test : List ℕ → Bool) → count_by test (loose salvaged) ≡ count_by (on_record test) (all_lists file)

-- a sound btree or hash file
pub record IsSoundFile (image : List ℕ) : Type 0 where
  pub small : length image ≤ 2 ^ 30
  pub bytes : AreBytes image
  pub sound : faults_of image ≡ []
  pub kind : (file_of image).kind ≢ Queue

-- what page 0 tells to salvage keeps all lists of a sound file
abbrev pub SoundFilesAreKept : Type 0
SoundFilesAreKept = (image : List ℕ) → IsSoundFile image → KeepsLists (guessed image) (file_of image)
