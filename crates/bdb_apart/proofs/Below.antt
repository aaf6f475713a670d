-- What the tactics of this crate take from the crates below.
pub use Rattle.bdb_rescue.proofs.of_overflow.KeyLemmas.{is_order, is_same}
pub use Rattle.bdb_rescue.proofs.of_format.SizeLemmas.{size_bounds}
