-- What is salvaged of each database that is found, as sections that can be loaded. Source: docs/FORMAT.md, "Salvage" and "Repair".
use Rattle.std.specs.Prelude.{◌≡◌, ⊤, ℕ, nat_lt, true, false, List, [], ◌∷◌, map, if◌then◌else◌, Option, Some, None, Result, Ok, Err}
use Rattle.bdb_model.specs.of_format.declared.settings.Settings.{Settings}
use Rattle.bdb_model.specs.of_text_format.Written.{shows_length}
use Rattle.bdb_model.specs.of_text_format.declared.sections.Section.{Section}
use Rattle.bdb_apart.specs.Given.{FoundIn, found_in}
use Rattle.bdb_apart.specs.Text.{section_pairs, settings_in}
use Rattle.bdb_mkfile.specs.Builds.{Builds, image_size}
use Rattle.bdb_repair.specs.Repairs.{IsNotRepaired}
use Rattle.bdb_repair.specs.declared.error.RepairError.{RepairError}
use Rattle.bdb_repair.specs.declared.error.RepairError.TheVariants.{NoMeta, TooLarge, Memory}
use Rattle.bdb_rescue.specs.Kept.{Reading}
use Rattle.bdb_rescue.specs.of_survey.declared.guess.Guess.{Guess}

-- the settings that the header of a text tells: a length of records that isn't fixed, or of 0 bytes, it doesn't tell
abbrev pub told_settings : Settings → Settings
told_settings settings = if shows_length settings then settings else record settings { fixed = false; re_len = 0; re_pad = 32 }

-- its section, as its text is read
abbrev pub section_in : FoundIn → Section
section_in it = record { name = it.db.name; settings = told_settings (settings_in it); header_line = 0; pairs = section_pairs it }

-- the sections of all of them
abbrev pub sections_in : Reading → List Section
sections_in reading = map section_in (found_in reading)

unfoldable pub apart_sections : Guess → List ℕ → List Section
apart_sections guess image = sections_in (record { guess = guess; image = image })

-- What is answered.

-- where there is a section: an image that is built of them; that it would be too large, exactly where it would; or that memory ran out
abbrev pub IsBuiltOf : ℕ → List Section → Result (List ℕ) RepairError → Type 0
IsBuiltOf max sections (Ok built) = Builds sections built × (nat_lt max (image_size sections) ≡ false)
IsBuiltOf max sections (Err NoMeta) = ⊥
IsBuiltOf max sections (Err TooLarge) = nat_lt max (image_size sections) ≡ true
IsBuiltOf max sections (Err Memory) = ⊤

-- where there is none, nothing is built
abbrev pub IsNotBuilt : Result (List ℕ) RepairError → Type 0
IsNotBuilt (Ok built) = ⊥
IsNotBuilt (Err NoMeta) = ⊤
IsNotBuilt (Err TooLarge) = ⊥
IsNotBuilt (Err Memory) = ⊤

abbrev pub AreBuilt : ℕ → List Section → Result (List ℕ) RepairError → Type 0
AreBuilt max [] result = IsNotBuilt result
AreBuilt max (first ∷ others) result = IsBuiltOf max (first ∷ others) result

-- the answer, by the guess that is given or told by page 0, where there is one; else no memory is asked for
abbrev pub IsRepairedApart : ℕ → Option Guess → List ℕ → Result (List ℕ) RepairError → Type 0
IsRepairedApart max None image result = IsNotRepaired result
IsRepairedApart max (Some guess) image result = AreBuilt max (apart_sections guess image) result
