pub mod GatheredLemmas
pub mod ListLemmas
pub mod PlacedLemmas
pub mod UnitLemmas
pub use Rattle.bdb_places.proofs.of_format as of_format
