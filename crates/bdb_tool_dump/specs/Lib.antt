pub mod Below
pub use Rattle.bdb_tool_print.specs.of_range as of_range
pub use Rattle.bdb_tool_print.specs.of_tool_lines as of_tool_lines
