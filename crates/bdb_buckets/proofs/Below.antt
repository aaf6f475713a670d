-- What the tactics of this crate take from the crates below.
pub use Rattle.bdb_tree.proofs.of_graph.LinkedLemmas.{bucket_few}
pub use Rattle.bdb_tree.proofs.of_overflow.KeyLemmas.{is_order}
