pub mod Guessed
pub mod Kept
pub mod Whole
pub use Rattle.bdb_survey.specs.of_format as of_format
pub use Rattle.bdb_survey.specs.of_graph as of_graph
pub use Rattle.bdb_survey.specs.of_image as of_image
pub use Rattle.bdb_survey.specs.of_law_sums as of_law_sums
