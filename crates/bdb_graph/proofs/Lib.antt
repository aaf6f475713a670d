mod Below
pub mod BlankLemmas
pub mod ChainLengthLemmas
pub mod ChildLemmas
pub mod ForestLemmas
pub mod LeapLemmas
pub mod LeavesLemmas
pub mod LinkedLemmas
pub mod MarkLemmas
pub mod OwnedLemmas
pub mod ReachLemmas
pub mod ReadLemmas
pub mod RunLemmas
pub mod TableLemmas
pub mod TallyLemmas
pub mod TargetLemmas
pub use Rattle.bdb_image.proofs.of_faults as of_faults
pub use Rattle.bdb_image.proofs.of_form as of_form
pub use Rattle.bdb_image.proofs.of_format as of_format
pub use Rattle.bdb_image.proofs as of_image
pub use Rattle.bdb_image.proofs.of_layout as of_layout
pub use Rattle.bdb_image.proofs.of_meta as of_meta
