mod Below
pub mod BucketLemmas
pub mod ChainedLemmas
pub mod ContentsLemmas
pub mod DataLemmas
pub mod HeadLemmas
pub mod PairLemmas
pub mod PlaceKeyLemmas
pub mod PlainLemmas
pub mod RowLemmas
pub mod TableLemmas
pub use Rattle.bdb_tree.proofs.of_format as of_format
pub use Rattle.bdb_tree.proofs.of_image as of_image
pub use Rattle.bdb_tree.proofs.of_layout as of_layout
pub use Rattle.bdb_tree.proofs.of_overflow as of_overflow
