pub mod BucketLemmas
pub mod Common
pub mod CostLemmas
pub mod FillLemmas
pub mod OpenLemmas
pub mod PageLemmas
pub mod SetLemmas
pub mod SpreadLemmas
pub mod SumLemmas
pub mod StoreLemmas
pub mod TableLemmas
pub mod BuildLemmas
pub use Rattle.bdb_mktree.proofs.of_format as of_format
pub use Rattle.bdb_law_buckets.proofs as of_law_buckets
pub use Rattle.bdb_mktree.proofs.of_law_grove as of_law_grove
pub use Rattle.bdb_mktree.proofs.of_layout as of_layout
pub use Rattle.bdb_mktree.proofs.of_mkleaves as of_mkleaves
pub use Rattle.bdb_mktree.proofs as of_mktree
pub use Rattle.bdb_mktree.proofs.of_pack as of_pack
