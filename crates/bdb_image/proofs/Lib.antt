pub mod ApartLemmas
pub mod BucketLemmas
pub mod CodeLemmas
pub mod FirstLemmas
pub mod FitLemmas
pub mod FormedLemmas
pub mod HeldLemmas
pub mod MetaLemmas
pub mod NotedLemmas
pub mod PieceLemmas
pub mod RoleLemmas
pub use Rattle.bdb_faults.proofs as of_faults
pub use Rattle.bdb_slots.proofs.of_form as of_form
pub use Rattle.bdb_faults.proofs.of_format as of_format
pub use Rattle.bdb_meta.proofs.of_layout as of_layout
pub use Rattle.bdb_meta.proofs as of_meta
