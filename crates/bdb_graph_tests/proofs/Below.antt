-- What the tactics of this crate take from the crates below.
pub use Rattle.bdb_format.proofs.LessLemmas.{not_less_both, not_less_same}
pub use Rattle.bdb_overflow.proofs.ContentLemmas.{leaf_item_fits}
pub use Rattle.bdb_overflow.proofs.LinkedLemmas.{legal_size, linked_whole}
