pub mod Below
pub mod Chained
pub mod Places
pub mod Repeat
pub mod Rest
pub mod Told
pub mod Views
pub use Rattle.bdb_tree.specs.of_format as of_format
pub use Rattle.bdb_tree.specs.of_image as of_image
pub use Rattle.bdb_tree.specs.of_layout as of_layout
pub use Rattle.bdb_tree.specs.of_overflow as of_overflow
