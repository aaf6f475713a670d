pub mod Building
pub mod Layout
pub mod Lists
pub mod Written
pub use Rattle.bdb_law_join.specs.of_faults as of_faults
pub use Rattle.bdb_law_join.specs.of_image as of_image
pub use Rattle.bdb_law_join.specs as of_law_join
pub use Rattle.bdb_law_join.specs.of_meta as of_meta
