pub mod ContentsLemmas
pub mod CountLemmas
pub mod FormLemmas
pub mod ListLemmas
pub mod NotedLemmas
pub mod PageLemmas
pub mod ScanLemmas
pub mod SearchLemmas
pub use Rattle.bdb_faults.proofs as of_faults
pub use Rattle.bdb_tree.proofs.of_format as of_format
pub use Rattle.bdb_tree.proofs.of_graph as of_graph
pub use Rattle.bdb_tree.proofs.of_image as of_image
pub use Rattle.bdb_tree.proofs as of_tree
