pub mod Below
pub mod Printers
pub mod Survey
pub use Rattle.bdb_tool_lines.specs.of_model as of_model
pub use Rattle.bdb_range.specs as of_range
pub use Rattle.bdb_text.specs.of_text_format as of_text_format
pub use Rattle.bdb_tool_lines.specs as of_tool_lines
