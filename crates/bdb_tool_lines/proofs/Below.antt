-- What the tactics of this crate take from the crates below.
pub use Rattle.bdb_faults.proofs.of_format.KnownLemmas.{appends_nothing}
