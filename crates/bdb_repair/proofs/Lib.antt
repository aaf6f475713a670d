pub mod RoomLemmas
pub mod ListRoomLemmas
pub mod TableRoomLemmas
pub mod PartLemmas
pub mod FileRoomLemmas
pub mod RepairLemmas
pub mod LineLemmas
pub mod HeldLemmas
pub mod ReadLemmas
pub mod KeyedLemmas
pub mod MetaFitLemmas
pub mod FoundNameLemmas
pub mod GivenFitLemmas
pub mod ApartLemmas
pub mod ApartRoomLemmas
pub mod ClaimLemmas
pub use Rattle.bdb_law_kept.proofs.of_any_order as of_any_order
pub use Rattle.bdb_law_kept.proofs.of_databases as of_databases
pub use Rattle.bdb_model.proofs.of_format as of_format
pub use Rattle.bdb_mkfile.proofs as of_mkfile
