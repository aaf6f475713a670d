mod Below
pub mod ChainLemmas
pub mod ContentLemmas
pub mod HeldLemmas
pub mod KeyLemmas
pub mod LengthLemmas
pub mod LinkedLemmas
pub mod PrefixLemmas
mod RefusalLemmas
pub mod RunLemmas
pub mod TakenLemmas
pub mod UnchainedLemmas
pub mod WholeLemmas
pub use Rattle.bdb_graph.proofs.of_form as of_form
pub use Rattle.bdb_graph.proofs.of_format as of_format
pub use Rattle.bdb_graph.proofs as of_graph
pub use Rattle.bdb_graph.proofs.of_image as of_image
pub use Rattle.bdb_graph.proofs.of_layout as of_layout
