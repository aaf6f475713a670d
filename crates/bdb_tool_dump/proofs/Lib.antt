pub use Rattle.bdb_tool_print.proofs.of_tool_lines as of_tool_lines
