pub mod PlaceLemmas
mod ReadLemmas
mod ApartLemmas
pub mod ListedLemmas
pub mod LeafLemmas
mod RunLemmas
pub mod HashLemmas
pub mod InnerLemmas
mod PlainLemmas
pub mod PageLemmas
pub mod JoinedLemmas
pub mod FlipLemmas
mod LawLemmas
pub use Rattle.bdb_graph.proofs.of_form as of_form
pub use Rattle.bdb_graph.proofs.of_format as of_format
pub use Rattle.bdb_graph.proofs as of_graph
pub use Rattle.bdb_graph.proofs.of_image as of_image
pub use Rattle.bdb_graph.proofs.of_layout as of_layout
