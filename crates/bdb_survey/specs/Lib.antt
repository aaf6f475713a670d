pub mod RowLaw
pub mod Salvage
pub mod Items
pub mod Links
pub mod Metas
pub mod Reads
pub mod Rows
pub mod Slots
pub mod Ways
pub use Rattle.bdb_law_sums.specs.of_format as of_format
pub use Rattle.bdb_law_sums.specs.of_graph as of_graph
pub use Rattle.bdb_law_sums.specs.of_image as of_image
pub use Rattle.bdb_law_sums.specs as of_law_sums
pub use Rattle.bdb_meta.specs.of_layout as of_layout
pub use Rattle.bdb_meta.specs as of_meta
pub use Rattle.bdb_law_sums.specs.of_overflow as of_overflow
pub use Rattle.bdb_law_sums.specs.of_tree as of_tree
