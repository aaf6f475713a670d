pub mod BehindLemmas
pub mod Common
pub mod DataLemmas
pub mod FirstsLemmas
pub mod KeyLemmas
pub mod LevelLemmas
pub mod OpenLemmas
pub mod RecordLemmas
pub mod SectionLemmas
pub mod TreeLemmas
pub mod NeedLemmas
pub mod QueueLemmas
pub mod TableLemmas
pub mod FilledLemmas
pub use Rattle.bdb_mkqueue.proofs.of_graph as of_graph
pub use Rattle.bdb_mkqueue.proofs.of_image as of_image
pub use Rattle.bdb_mkhash.proofs.of_law_buckets as of_law_buckets
pub use Rattle.bdb_mkhash.proofs.of_law_grove as of_law_grove
pub use Rattle.bdb_mkqueue.proofs.of_law_join as of_law_join
pub use Rattle.bdb_mkhash.proofs.of_layout as of_layout
pub use Rattle.bdb_mkqueue.proofs.of_meta as of_meta
pub use Rattle.bdb_mkhash.proofs as of_mkhash
pub use Rattle.bdb_mkhash.proofs.of_mkleaves as of_mkleaves
pub use Rattle.bdb_mkqueue.proofs as of_mkqueue
pub use Rattle.bdb_mkhash.proofs.of_pack as of_pack
pub use Rattle.bdb_settle.proofs as of_settle
