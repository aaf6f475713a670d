pub mod Fields
pub mod Rows
pub use Rattle.bdb_tree.specs.of_form as of_form
pub use Rattle.bdb_tree.specs.of_image as of_image
pub use Rattle.bdb_tree.specs.of_slots as of_slots
pub use Rattle.bdb_tree.specs as of_tree
