-- What the tactics of this crate take from the crates below.
pub use Rattle.bdb_faults.proofs.SinkLemmas.{notes_none}
