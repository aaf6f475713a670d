pub mod RoomLemmas
pub mod StepLemmas
pub mod TallyLemmas
pub mod TotalLemmas
pub mod WalkLemmas
pub use Rattle.bdb_apart.proofs.of_rescue as of_rescue
