pub mod ApartLemmas
pub mod BlockLemmas
pub mod BtreeLoadLemmas
pub mod DatabaseLemmas
pub mod EntryLemmas
pub mod FoundLemmas
pub mod HashLoadLemmas
pub mod LeftLemmas
pub mod ListLemmas
pub mod MasterLemmas
pub mod PageLoadLemmas
pub mod QueueLeftLemmas
pub mod RecnoLoadLemmas
pub mod RecordLemmas
pub mod SectionLemmas
pub mod SeenLemmas
pub use Rattle.bdb_apart.proofs as of_apart
pub use Rattle.bdb_law_homes.proofs.of_law_whole as of_law_whole
