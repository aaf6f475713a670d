pub mod SpellingLemmas
pub mod PrinterLemmas
pub mod DumpLemmas
pub mod ListingLemmas
pub use Rattle.bdb_tool_lines.proofs as of_tool_lines
