pub mod Descent
pub mod Entries
pub mod Links
pub mod Noted
pub mod Trees
pub use Rattle.bdb_overflow.specs.of_form as of_form
pub use Rattle.bdb_overflow.specs.of_format as of_format
pub use Rattle.bdb_overflow.specs.of_graph as of_graph
pub use Rattle.bdb_overflow.specs.of_image as of_image
pub use Rattle.bdb_overflow.specs.of_layout as of_layout
pub use Rattle.bdb_overflow.specs as of_overflow
pub use Rattle.bdb_overflow.specs.of_slots as of_slots
