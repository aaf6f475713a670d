pub mod BlockLemmas
pub mod HashingLemmas
pub mod KeyLemmas
pub mod NumberLemmas
pub mod ReadBackLemmas
pub mod RowLemmas
pub mod WritingLemmas
pub use Rattle.bdb_format.proofs as of_format
