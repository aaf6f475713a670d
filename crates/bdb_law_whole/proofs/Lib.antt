pub mod AlikeLemmas
pub mod ChainLemmas
pub mod ItemLemmas
pub mod KeptLemmas
pub mod MetaLemmas
pub mod PageLemmas
pub mod PairLemmas
pub mod SetLemmas
pub mod TakenLemmas
pub use Rattle.bdb_survey.proofs.of_format as of_format
pub use Rattle.bdb_survey.proofs.of_graph as of_graph
pub use Rattle.bdb_survey.proofs.of_image as of_image
pub use Rattle.bdb_survey.proofs.of_law_sums as of_law_sums
pub use Rattle.bdb_survey.proofs as of_survey
