-- The text that salvage writes reads as the sections of what is salvaged. Source: docs/FORMAT.md, "Salvage" and "Repair".
use Rattle.std.specs.Prelude.{◌≡◌, ℕ, ◌≤◌, ◌^◌, IsTrue, Bool, List, length, map, None}
use Rattle.bdb_model.specs.of_format.Terms.{is_page_size}
use Rattle.bdb_model.specs.of_text_format.declared.pairs.TextPair.{TextPair}
use Rattle.bdb_model.specs.of_text_format.declared.sections.Section.{Section}
use Rattle.bdb_model.specs.of_text_format.Terms.{Reads}
use Rattle.bdb_law_kept.specs.of_text.WrittenLaw.{AreBytes}
use Rattle.bdb_mkfile.specs.of_settle.LoadErrors.{load_error}
use Rattle.bdb_mkfile.specs.Builds.{Builds, image_size}
use Rattle.bdb_rescue.specs.Text.{salvage_text}
use Rattle.bdb_repair.specs.Parts.{repair_sections}
use Rattle.bdb_rescue.specs.of_survey.declared.guess.Guess.{Guess}

-- a pair, and a section, without the numbers of their lines

abbrev pub unlined : TextPair → TextPair
unlined pair = record pair { line = 0 }

abbrev pub without_lines : Section → Section
without_lines section = record section { header_line = 0; pairs = map unlined section.pairs }

-- The text reads as sections that have no load error, are those of what is salvaged but for the numbers of their lines, and make an image of as many bytes.
pub record ReadsAsSalvaged (print : Bool) (guess : Guess) (image : List ℕ) : Type 0 where
  pub sections : List Section
  pub reads : Reads (salvage_text print guess image) sections
  pub no_error : load_error sections ≡ None
  pub are : map without_lines sections ≡ repair_sections None guess image
  pub size : image_size sections ≡ image_size (repair_sections None guess image)

abbrev pub SalvageIsRead : Type 0
SalvageIsRead =
    (print : Bool) (guess : Guess) (image : List ℕ) → length image ≤ 2 ^ 30 → AreBytes image → IsTrue (is_page_size guess.page_size)
    → ReadsAsSalvaged print guess image

-- The numbers of lines have no part in what is built: so repairing an image is loading what salvage writes of it.
abbrev pub LinesHaveNoPart : Type 0
LinesHaveNoPart =
    (sections : List Section) (built : List ℕ)
    → (Builds sections built → Builds (map without_lines sections) built) × (Builds (map without_lines sections) built → Builds sections built)
