pub mod BelongLemmas
mod Below
pub mod DescentLemmas
pub mod DownLemmas
pub mod EntryLemmas
pub mod InnerLemmas
pub mod LevelLemmas
pub mod LinkLemmas
pub mod ListedLemmas
pub mod NotedLemmas
pub mod PairLemmas
pub mod RootLemmas
pub mod ShapeLemmas
pub mod StageLemmas
pub mod TreeLemmas
pub mod WayLemmas
pub use Rattle.bdb_overflow.proofs.of_form as of_form
pub use Rattle.bdb_overflow.proofs.of_format as of_format
pub use Rattle.bdb_overflow.proofs.of_graph as of_graph
pub use Rattle.bdb_overflow.proofs.of_image as of_image
pub use Rattle.bdb_overflow.proofs.of_layout as of_layout
pub use Rattle.bdb_overflow.proofs as of_overflow
