-- What the tactics of this crate take from the crates below.
pub use Rattle.bdb_graph.proofs.of_format.LessLemmas.{less_self}
