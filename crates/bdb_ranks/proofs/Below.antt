-- What the tactics of this crate take from the crates below.
pub use Rattle.bdb_tree.proofs.of_layout.KeyLemmas.{by_bytes}
pub use Rattle.bdb_tree.proofs.of_overflow.KeyLemmas.{is_less}
