-- What the tactics of this crate take from the crates below.
pub use Rattle.bdb_image.proofs.of_format.FileLemmas.{count_is, kind_is, page_is, past_last}
pub use Rattle.bdb_image.proofs.of_format.ListLemmas.{range_more}
