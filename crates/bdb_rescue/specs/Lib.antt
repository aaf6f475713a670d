pub mod Below
pub mod Entries
pub mod Gathered
pub mod Guesses
pub mod Kept
pub mod Marks
pub mod Text
pub use Rattle.bdb_text_format.specs.of_format as of_format
pub use Rattle.bdb_survey.specs.of_image as of_image
pub use Rattle.bdb_survey.specs.of_layout as of_layout
pub use Rattle.bdb_survey.specs.of_law_sums as of_law_sums
pub use Rattle.bdb_survey.specs.of_overflow as of_overflow
pub use Rattle.bdb_survey.specs as of_survey
pub use Rattle.bdb_text_format.specs as of_text_format
