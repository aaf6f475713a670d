pub mod AscendLemmas
pub mod BesideLemmas
pub mod BranchLemmas
pub mod ChainLemmas
pub mod GroveLemmas
pub mod LeafLemmas
pub mod OwnerLemmas
pub mod SeveralLemmas
pub mod ShareLemmas
pub mod SpanLemmas
pub mod StandLemmas
pub mod TakeLemmas
pub use Rattle.bdb_format.proofs as of_format
