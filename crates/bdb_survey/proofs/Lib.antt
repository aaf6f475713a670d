mod Below
pub mod MetaLemmas
pub mod StoredPageLemmas
pub mod StoredRowLemmas
pub mod PageLemmas
pub mod SlotLemmas
pub mod WalkLemmas
pub mod ChainLemmas
pub mod WholeLemmas
pub mod SurveyLemmas
pub mod WayLemmas
pub mod DownLemmas
pub mod RowLemmas
pub use Rattle.bdb_law_sums.proofs.of_format as of_format
pub use Rattle.bdb_law_sums.proofs.of_graph as of_graph
pub use Rattle.bdb_law_sums.proofs.of_image as of_image
pub use Rattle.bdb_law_sums.proofs as of_law_sums
pub use Rattle.bdb_law_sums.proofs.of_overflow as of_overflow
pub use Rattle.bdb_law_sums.proofs.of_tree as of_tree
