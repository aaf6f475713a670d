-- The text of what is salvaged, database by database, and of what is left. Source: docs/FORMAT.md, "Salvage".
use Rattle.std.specs.Prelude.{ℕ, Bool, if◌then◌else◌, List, ◌++◌, map}
use Rattle.std.specs.List.{flat_map}
use Rattle.bdb_rescue.specs.of_format.declared.settings.Settings.{Settings}
use Rattle.bdb_rescue.specs.of_format.Flags.{has_records}
use Rattle.bdb_rescue.specs.of_format.Terms.{ListKey, settings_of}
use Rattle.bdb_rescue.specs.of_text_format.Terms.{section_text}
use Rattle.bdb_rescue.specs.of_text_format.declared.pairs.TextPair.{TextPair}
use Rattle.bdb_rescue.specs.of_survey.declared.guess.Guess.{Guess}
use Rattle.bdb_rescue.specs.Gathered.{loose_pair, stored_pair}
use Rattle.bdb_rescue.specs.Kept.{Reading}
use Rattle.bdb_rescue.specs.Text.{bytes_pair, loose_section, numbered_record, stored_section}
use Rattle.bdb_apart.specs.Given.{FoundIn, found_in, pairs_given, pairs_left, records_given, records_left}

-- the list of a database that is found
abbrev pub list_given : FoundIn → List (ListKey × List ℕ)
list_given it = if has_records it.db.fields then map numbered_record (records_given it) else map bytes_pair (pairs_given it)

-- the same as pairs of a section
abbrev pub section_pairs : FoundIn → List TextPair
section_pairs it = if has_records it.db.fields then map loose_pair (records_given it) else map stored_pair (pairs_given it)

-- its settings, with the page size and the order of the guess
abbrev pub settings_in : FoundIn → Settings
settings_in it = settings_of it.reading.guess.page_size it.reading.guess.order it.db.fields

abbrev pub db_section : Bool → FoundIn → List ℕ
db_section print it = section_text print it.db.name (settings_in it) (list_given it)

-- the text of what is salvaged of each database
unfoldable pub apart_text : Bool → Guess → List ℕ → List ℕ
apart_text print guess image =
    let reading : Reading = record { guess = guess; image = image } in
    flat_map (db_section print) (found_in reading)

-- the text of what belongs to none
unfoldable pub rest_text : Bool → Guess → List ℕ → List ℕ
rest_text print guess image =
    let reading : Reading = record { guess = guess; image = image } in
    stored_section print guess (pairs_left reading) ++ loose_section print guess (records_left reading)
