pub mod Kept
pub mod Dumps
pub mod Later
pub use Rattle.bdb_databases.specs.of_any_order as of_any_order
pub use Rattle.bdb_databases.specs as of_databases
pub use Rattle.bdb_settle.specs as of_settle
pub use Rattle.bdb_text.specs as of_text
pub use Rattle.bdb_settle.specs.of_text_format as of_text_format
