-- What the tactics of this crate take from the crates below.
pub use Rattle.bdb_layout.proofs.of_format.ItemLemmas.{index_first, items_next}
pub use Rattle.bdb_layout.proofs.of_format.PageLemmas.{length_items}
