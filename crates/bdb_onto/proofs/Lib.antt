pub mod AgainLemmas
pub mod BareLemmas
pub mod BaseLemmas
pub mod BuildLemmas
pub mod ErrorLemmas
pub mod FieldsLemmas
pub mod FitLemmas
pub mod JoinLemmas
pub mod JoiningLemmas
pub mod ListsLemmas
pub mod NothingLemmas
pub mod OntoLemmas
pub mod ReplacedLemmas
pub mod SearchLemmas
pub use Rattle.bdb_law_kept.proofs as of_law_kept
pub use Rattle.bdb_mkfile.proofs as of_mkfile
pub use Rattle.bdb_law_kept.proofs.of_text as of_text
