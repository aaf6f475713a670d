pub mod CountedLemmas
pub mod NameOrderLemmas
pub mod NamedLemmas
pub mod NumberLemmas
pub mod PlaceLemmas
pub mod ReadableLemmas
pub mod SoundLemmas
pub mod UnderLemmas
pub use Rattle.bdb_any_order.proofs as of_any_order
pub use Rattle.bdb_btree.proofs as of_btree
pub use Rattle.bdb_hash_list.proofs.of_buckets as of_buckets
pub use Rattle.bdb_recno.proofs.of_format as of_format
pub use Rattle.bdb_recno.proofs.of_graph as of_graph
pub use Rattle.bdb_hash_list.proofs as of_hash_list
pub use Rattle.bdb_recno.proofs.of_image as of_image
pub use Rattle.bdb_queue.proofs as of_queue
pub use Rattle.bdb_recno.proofs as of_recno
pub use Rattle.bdb_recno.proofs.of_tree as of_tree
