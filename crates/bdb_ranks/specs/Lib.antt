pub mod Order
pub mod Ranks
pub mod Shared
pub use Rattle.bdb_tree.specs.of_form as of_form
pub use Rattle.bdb_tree.specs.of_format as of_format
pub use Rattle.bdb_tree.specs.of_graph as of_graph
pub use Rattle.bdb_tree.specs.of_image as of_image
pub use Rattle.bdb_tree.specs.of_layout as of_layout
pub use Rattle.bdb_tree.specs.of_overflow as of_overflow
pub use Rattle.bdb_tree.specs.of_slots as of_slots
pub use Rattle.bdb_tree.specs as of_tree
