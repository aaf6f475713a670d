pub mod RowsLemmas
pub mod VerdictLemmas
pub use Rattle.bdb_check.proofs.of_any_order as of_any_order
pub use Rattle.bdb_check.proofs.of_btree as of_btree
pub use Rattle.bdb_databases.proofs.of_buckets as of_buckets
pub use Rattle.bdb_databases.proofs.of_hash_list as of_hash_list
