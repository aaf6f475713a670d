pub mod Whole
pub use Rattle.bdb_check.specs.of_any_order as of_any_order
pub use Rattle.bdb_check.specs.of_btree as of_btree
pub use Rattle.bdb_databases.specs.of_buckets as of_buckets
pub use Rattle.bdb_databases.specs as of_databases
pub use Rattle.bdb_check.specs.of_faults as of_faults
pub use Rattle.bdb_check.specs.of_format as of_format
pub use Rattle.bdb_databases.specs.of_hash_list as of_hash_list
pub use Rattle.bdb_check.specs.of_image as of_image
pub use Rattle.bdb_check.specs.of_overflow as of_overflow
