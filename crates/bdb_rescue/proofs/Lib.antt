pub mod GatheredLemmas
pub mod GuessLemmas
pub mod KeptLemmas
pub mod LeftLemmas
pub mod ListLemmas
pub mod LooseCountLemmas
pub mod LooseLemmas
pub mod MarkLemmas
pub mod PageLemmas
pub mod SetLemmas
pub mod StoredLemmas
pub mod TableLemmas
pub mod ThinLemmas
pub use Rattle.bdb_text_format.proofs.of_format as of_format
pub use Rattle.bdb_survey.proofs.of_image as of_image
pub use Rattle.bdb_survey.proofs.of_law_sums as of_law_sums
pub use Rattle.bdb_survey.proofs.of_overflow.of_layout as of_layout
pub use Rattle.bdb_survey.proofs.of_overflow as of_overflow
pub use Rattle.bdb_survey.proofs as of_survey
