-- What the tactics of this crate take from the crates below.
pub use Rattle.bdb_tool_dump.proofs.of_tool_lines.FinishLemmas.{no_line, same_text, written_finishes}
