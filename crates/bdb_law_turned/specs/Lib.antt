pub mod Fields
pub mod Overlaps
pub mod Turning
pub mod Flipped
pub mod Apart
pub mod Parts
pub mod Laws
pub use Rattle.bdb_graph.specs.of_form as of_form
pub use Rattle.bdb_graph.specs.of_format as of_format
pub use Rattle.bdb_graph.specs.of_image as of_image
pub use Rattle.bdb_graph.specs.of_layout as of_layout
