mod Below
pub mod HeadLemmas
pub mod RankLemmas
pub mod SharedLemmas
pub use Rattle.bdb_tree.proofs.of_form as of_form
pub use Rattle.bdb_tree.proofs.of_format as of_format
pub use Rattle.bdb_tree.proofs.of_graph as of_graph
pub use Rattle.bdb_tree.proofs.of_image as of_image
pub use Rattle.bdb_tree.proofs.of_overflow as of_overflow
pub use Rattle.bdb_tree.proofs as of_tree
