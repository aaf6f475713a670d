pub mod Alone
pub mod Filed
pub mod Joining
pub mod Masters
pub mod Queues
pub mod Written
pub use Rattle.bdb_graph.specs.of_faults as of_faults
pub use Rattle.bdb_graph.specs.of_image as of_image
pub use Rattle.bdb_graph.specs.of_meta as of_meta
pub use Rattle.bdb_pack.specs as of_pack
