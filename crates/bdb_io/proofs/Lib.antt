pub mod TakenLemmas
pub use Rattle.bdb_format.proofs as of_format
