pub mod Below
pub mod Datum
pub mod Held
pub mod Keys
pub mod Lengths
pub mod Prefix
pub mod Runs
pub mod Taken
pub mod Whole
pub use Rattle.bdb_graph.specs.of_form as of_form
pub use Rattle.bdb_graph.specs.of_format as of_format
pub use Rattle.bdb_graph.specs as of_graph
pub use Rattle.bdb_graph.specs.of_image as of_image
pub use Rattle.bdb_graph.specs.of_layout as of_layout
pub use Rattle.bdb_graph.specs.of_slots as of_slots
