-- What the tactics of this crate take from the crates below.
pub use Rattle.bdb_need.proofs.of_pack.AddedLemmas.{zeros_are}
