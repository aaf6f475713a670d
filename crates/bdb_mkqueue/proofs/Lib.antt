pub mod Common
pub mod RecordLemmas
pub mod NumberLemmas
pub mod SlotLemmas
pub mod PageLemmas
pub mod ListLemmas
pub mod StepLemmas
pub mod LastLemmas
pub mod BuiltLemmas
pub mod WrittenLemmas
pub mod FileLemmas
pub use Rattle.bdb_law_join.proofs.of_graph as of_graph
pub use Rattle.bdb_law_join.proofs.of_image as of_image
pub use Rattle.bdb_law_join.proofs as of_law_join
pub use Rattle.bdb_law_join.proofs.of_meta as of_meta
