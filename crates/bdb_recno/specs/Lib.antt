pub mod Below
pub mod Counts
pub mod Entries
pub mod Noted
pub mod Pages
pub mod Pairs
pub mod Seen
pub use Rattle.bdb_faults.specs as of_faults
pub use Rattle.bdb_tree.specs.of_format as of_format
pub use Rattle.bdb_tree.specs.of_image as of_image
pub use Rattle.bdb_tree.specs.of_overflow as of_overflow
pub use Rattle.bdb_tree.specs as of_tree
