pub mod Below
pub mod Blanks
pub mod ChainLengths
pub mod Forest
pub mod Leaps
pub mod Marks
pub mod Owned
pub mod Tallies
pub mod Walked
pub use Rattle.bdb_image.specs.of_faults as of_faults
pub use Rattle.bdb_image.specs.of_form as of_form
pub use Rattle.bdb_image.specs.of_format as of_format
pub use Rattle.bdb_image.specs as of_image
pub use Rattle.bdb_image.specs.of_layout as of_layout
pub use Rattle.bdb_image.specs.of_meta as of_meta
pub use Rattle.bdb_image.specs.of_slots as of_slots
