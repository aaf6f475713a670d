pub mod BuiltLemmas
pub mod RepairLemmas
pub mod OntoLemmas
pub mod RunLemmas
pub mod ClaimLemmas
pub mod TaskLemmas
pub mod WantLemmas
pub mod OrderLemmas
pub use Rattle.bdb_repair.proofs.of_any_order as of_any_order
pub use Rattle.bdb_repair.proofs.of_databases as of_databases
pub use Rattle.bdb_repair.proofs.of_mkfile as of_mkfile
