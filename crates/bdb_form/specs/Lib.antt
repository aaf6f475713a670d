pub mod Below
pub mod Ends
pub mod Formed
pub mod Pairs
pub mod Seen
pub use Rattle.bdb_layout.specs.of_format as of_format
pub use Rattle.bdb_layout.specs as of_layout
