mod Below
pub mod CheckLemmas
pub mod CountLemmas
pub mod EndLemmas
pub mod FallLemmas
pub mod FindLemmas
pub mod HeldLemmas
pub mod InnerLemmas
pub mod ItemLemmas
pub mod NotedLemmas
pub mod OrderLemmas
pub mod PairLemmas
pub mod RootLemmas
pub mod RowLemmas
pub mod ScanLemmas
pub mod SeenLemmas
pub mod SeparatorLemmas
pub mod WalkLemmas
pub use Rattle.bdb_faults.proofs as of_faults
pub use Rattle.bdb_ranks.proofs.of_format as of_format
pub use Rattle.bdb_ranks.proofs.of_graph as of_graph
pub use Rattle.bdb_ranks.proofs.of_image as of_image
pub use Rattle.bdb_ranks.proofs.of_tree as of_tree
