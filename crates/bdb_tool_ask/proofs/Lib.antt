mod Below
pub mod TellingLemmas
pub mod AnswerLemmas
pub mod RangeLemmas
pub mod ConvertLemmas
pub mod FigureLemmas
pub use Rattle.bdb_tool_dump.proofs.of_tool_lines as of_tool_lines
