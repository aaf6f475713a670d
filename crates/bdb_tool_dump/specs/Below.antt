-- What the tactics of this crate take from the crates below.
pub use Rattle.bdb_tool_print.specs.of_model.Answers.{values_text}
