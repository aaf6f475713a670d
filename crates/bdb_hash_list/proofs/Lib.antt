pub mod ListingLemmas
pub mod LookupLemmas
pub mod MaskLemmas
pub mod PlaceLemmas
pub mod ScanLemmas
pub use Rattle.bdb_buckets.proofs as of_buckets
