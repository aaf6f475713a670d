pub mod KeepsAll
pub use Rattle.bdb_rescue.specs.of_format as of_format
