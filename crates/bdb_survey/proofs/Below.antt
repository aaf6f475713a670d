-- What the tactics of this crate take from the crates below.
pub use Rattle.bdb_law_sums.proofs.of_format.SizeLemmas.{long_page}
