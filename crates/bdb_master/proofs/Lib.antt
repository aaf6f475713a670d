mod Below
pub mod CountLemmas
pub mod EntryLemmas
pub mod MasterLemmas
pub mod NotingLemmas
pub mod RepeatLemmas
pub mod TargetLemmas
pub use Rattle.bdb_btree.proofs as of_btree
