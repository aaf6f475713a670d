-- What the tactics of this crate take from the crates below.
pub use Rattle.bdb_graph.specs.of_format.Chains.{value_of}
