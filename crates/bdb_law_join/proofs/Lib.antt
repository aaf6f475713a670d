pub mod AloneLemmas
pub mod CommonLemmas
pub mod FiledLemmas
pub mod FirstLemmas
pub mod HeadLemmas
pub mod JoinLemmas
pub mod KnownLemmas
pub mod MasterLemmas
pub mod MetaLemmas
pub mod NamedLemmas
pub mod OwnerLemmas
pub mod QueueLemmas
pub mod ReachLemmas
pub mod ReadLemmas
pub mod RoleLemmas
pub mod SourceLemmas
pub mod StageLemmas
pub mod WrittenLemmas
pub use Rattle.bdb_graph.proofs as of_graph
pub use Rattle.bdb_graph.proofs.of_image as of_image
pub use Rattle.bdb_graph.proofs.of_meta as of_meta
pub use Rattle.bdb_pack.proofs as of_pack
