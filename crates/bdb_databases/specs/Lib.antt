pub mod Laws
pub mod Listing
pub mod Lookup
pub mod Named
pub mod Under
pub use Rattle.bdb_any_order.specs as of_any_order
pub use Rattle.bdb_hash_list.specs.of_buckets as of_buckets
pub use Rattle.bdb_recno.specs.of_format as of_format
pub use Rattle.bdb_hash_list.specs as of_hash_list
pub use Rattle.bdb_recno.specs.of_image as of_image
pub use Rattle.bdb_master.specs as of_master
pub use Rattle.bdb_recno.specs.of_overflow as of_overflow
pub use Rattle.bdb_queue.specs as of_queue
