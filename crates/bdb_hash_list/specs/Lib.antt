pub mod Scanned
pub use Rattle.bdb_buckets.specs as of_buckets
