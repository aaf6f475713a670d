-- What the tactics of this crate take from the crates below.
pub use Rattle.bdb_btree.proofs.of_faults.SinkLemmas.{notes_nothing}
