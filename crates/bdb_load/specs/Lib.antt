pub mod Again
pub use Rattle.bdb_onto.specs.of_law_kept as of_law_kept
