-- The text of what is salvaged from an image: a section for the stored pairs, and one for the loose records. Source: docs/FORMAT.md, "Salvage".
use Rattle.std.specs.Prelude.{ℕ, Bool, true, List, [], ◌∷◌, ◌++◌, map, Some, codes}
use Rattle.std.specs.List.{enumerate_from}
use Rattle.bdb_text_format.specs.of_format.declared.kinds.Kind.TheVariants.{Btree, Recno}
use Rattle.bdb_text_format.specs.of_format.declared.settings.Settings.{Settings}
use Rattle.bdb_text_format.specs.of_format.Terms.{BytesKey, File, ListKey, NumberKey, plain_settings}
use Rattle.bdb_text_format.specs.Terms.{section_text}
use Rattle.bdb_survey.specs.declared.guess.Guess.{Guess}
use Rattle.bdb_survey.specs.Salvage.{loose, salvaged_file, stored}

-- a recno section as the image is read, without a setting of its own
abbrev pub loose_settings : Guess → Settings
loose_settings guess = plain_settings Recno guess.page_size guess.order

-- a btree section whose keys may have several data, in no order
abbrev pub stored_settings : Guess → Settings
stored_settings guess = record (loose_settings guess) { kind = Btree; duplicates = true }

-- a stored pair in the list of a section
abbrev pub bytes_pair : (List ℕ × List ℕ) → (ListKey × List ℕ)
bytes_pair pair = (BytesKey pair.0, pair.1)

-- a record with its number in the list of a section
abbrev pub numbered_record : (ℕ × List ℕ) → (ListKey × List ℕ)
numbered_record record_at = (NumberKey record_at.0, record_at.1)

-- the section of the stored pairs
abbrev pub stored_section : Bool → Guess → List (List ℕ × List ℕ) → List ℕ
stored_section print guess pairs = section_text print (Some (codes "salvaged")) (stored_settings guess) (map bytes_pair pairs)

-- the section of the loose records, numbered from 1, where there is one
abbrev pub loose_section : Bool → Guess → List (List ℕ) → List ℕ
loose_section print guess [] = []
loose_section print guess (first ∷ others) =
    section_text print (Some (codes "loose")) (loose_settings guess) (map numbered_record (enumerate_from 1 (first ∷ others)))

abbrev pub text_of_file : Bool → Guess → File → List ℕ
text_of_file print guess file = stored_section print guess (stored file) ++ loose_section print guess (loose file)

-- the text of what is salvaged from an image that is read by a guess
unfoldable pub salvage_text : Bool → Guess → List ℕ → List ℕ
salvage_text print guess image = text_of_file print guess (salvaged_file guess.order guess.page_size image)
