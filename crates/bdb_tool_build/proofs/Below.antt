-- What the tactics of this crate take from the crates below.
pub use Rattle.bdb_model.proofs.of_format.LessLemmas.{eq_same}
