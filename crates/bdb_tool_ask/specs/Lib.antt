pub mod FileAnswers
pub mod Figures
pub use Rattle.bdb_tool_dump.specs.of_tool_lines as of_tool_lines
pub use Rattle.bdb_tool_print.specs as of_tool_print
