-- What is given of each database of a sound file. Source: docs/FORMAT.md, "Salvage" and "What loading does to a list".
use Rattle.std.specs.Prelude.{◌≡◌, ℕ, List, map}
use Rattle.std.specs.List.{Contains}
use Rattle.bdb_law_homes.specs.of_format.declared.settings.Settings.{Settings}
use Rattle.bdb_law_homes.specs.of_format.Terms.{file_of, list_of}
use Rattle.bdb_apart.specs.Found.{Found, found}
use Rattle.bdb_apart.specs.Given.{in_image}
use Rattle.bdb_apart.specs.Text.{list_given, settings_in}
use Rattle.bdb_law_homes.specs.of_law_whole.Kept.{IsSoundFile}
use Rattle.bdb_law_kept.specs.of_text_format.declared.pairs.TextPair.{TextPair}
use Rattle.bdb_law_kept.specs.of_text_format.Terms.{listed}
use Rattle.bdb_law_kept.specs.of_settle.Loaded.{loaded}
use Rattle.bdb_law_kept.specs.of_text.WrittenLaw.{pair_in}
use Rattle.bdb_law_kept.specs.Kept.{LoadsAlike}
use Rattle.bdb_apart.specs.Read.{read}

-- pairs of a text that are given of a database of a sound btree or hash file are loaded into its list, under settings that load as its own do
abbrev pub GivenListsLoad : Type 0
GivenListsLoad =
    (image : List ℕ) (db : Found) (settings : Settings) (pairs : List TextPair) → IsSoundFile image → Contains (found (read image)) db
    → map pair_in pairs ≡ list_given (in_image (read image) db) → LoadsAlike settings (settings_in (in_image (read image) db))
    → listed (loaded settings pairs) ≡ list_of (file_of image) db.fields
