-- What the tactics of this crate take from the crates below.
pub use Rattle.bdb_text_format.specs.of_format.Chains.{value_of}
pub use Rattle.bdb_survey.specs.Salvage.{is_taken, is_whole}
