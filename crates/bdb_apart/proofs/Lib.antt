mod Below
pub mod EntryLemmas
pub mod RowLemmas
pub mod MetaLemmas
pub mod FoundLemmas
pub mod NameLemmas
pub mod KindLemmas
pub mod GivenLemmas
pub mod HeldLemmas
pub mod CountLemmas
pub mod LeftLemmas
pub mod KnownLemmas
pub mod SlotLemmas
pub mod SumLemmas
pub mod PartLemmas
pub mod OrderLemmas
pub mod SectionLemmas
pub use Rattle.bdb_rescue.proofs as of_rescue
pub use Rattle.bdb_rescue.proofs.of_format as of_format
pub use Rattle.bdb_rescue.proofs.of_law_sums as of_law_sums
pub use Rattle.bdb_rescue.proofs.of_survey as of_survey
pub use Rattle.bdb_homes.specs as of_homes
