-- What is salvaged of an image, as sections that can be loaded. Source: docs/FORMAT.md, "Salvage" and "Repair".
use Rattle.std.specs.Prelude.{ℕ, List, [], ◌∷◌, map, Option, Some, None, codes}
use Rattle.bdb_model.specs.of_format.Terms.{File}
use Rattle.bdb_model.specs.of_text_format.declared.pairs.TextPair.{TextPair}
use Rattle.bdb_model.specs.of_text_format.declared.sections.Section.{Section}
pub use Rattle.bdb_rescue.specs.Gathered.{loose_pair, loose_pairs, stored_pair}
use Rattle.bdb_rescue.specs.Text.{loose_settings, stored_settings}
use Rattle.bdb_model.specs.declared.shape.Shape.{Shape}
use Rattle.bdb_model.specs.declared.shape.Shape.TheVariants.{Btree as BtreeShape, Hash as HashShape, Recno as RecnoShape}
use Rattle.bdb_repair.specs.Shapes.{shaped_settings}
use Rattle.bdb_rescue.specs.of_survey.declared.guess.Guess.{Guess}
use Rattle.bdb_rescue.specs.of_survey.Salvage.{loose, salvaged_file, stored}

abbrev pub stored_pairs : List (List ℕ × List ℕ) → List TextPair
stored_pairs pairs = map stored_pair pairs

-- Sections with the names that salvage writes.

abbrev pub stored_section : Guess → List (List ℕ × List ℕ) → Section
stored_section guess pairs = record {
  name = Some (codes "salvaged");
  settings = stored_settings guess;
  header_line = 0;
  pairs = stored_pairs pairs;
}

abbrev pub loose_section : Guess → List (List ℕ) → Section
loose_section guess records = record {
  name = Some (codes "loose");
  settings = loose_settings guess;
  header_line = 0;
  pairs = loose_pairs records;
}

-- the section of the loose records, where there is one
abbrev pub loose_part : Guess → List (List ℕ) → List Section
loose_part guess [] = []
loose_part guess (first ∷ others) = loose_section guess (first ∷ others) ∷ []

abbrev pub named_sections : Guess → File → List Section
named_sections guess file = stored_section guess (stored file) ∷ loose_part guess (loose file)

-- One section without a name.

-- a recno has the loose records, a btree or a hash the stored pairs
abbrev pub shaped_pairs : Shape → File → List TextPair
shaped_pairs (BtreeShape duplicates) file = stored_pairs (stored file)
shaped_pairs (HashShape duplicates) file = stored_pairs (stored file)
shaped_pairs RecnoShape file = loose_pairs (loose file)

abbrev pub shaped_section : Guess → Shape → File → Section
shaped_section guess shape file = record {
  name = None;
  settings = shaped_settings guess shape;
  header_line = 0;
  pairs = shaped_pairs shape file;
}

-- Both.

abbrev pub sections_of_file : Option Shape → Guess → File → List Section
sections_of_file None guess file = named_sections guess file
sections_of_file (Some shape) guess file = shaped_section guess shape file ∷ []

-- the sections of what is salvaged from an image that is read by a guess
abbrev pub repair_sections : Option Shape → Guess → List ℕ → List Section
repair_sections shape guess image = sections_of_file shape guess (salvaged_file guess.order guess.page_size image)
