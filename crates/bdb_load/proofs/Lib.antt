pub mod AgainLemmas
pub use Rattle.bdb_onto.proofs.of_law_kept as of_law_kept
