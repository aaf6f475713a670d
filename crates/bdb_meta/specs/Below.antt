-- What the tactics of this crate take from the crates below.
pub use Rattle.bdb_layout.specs.of_format.HeadOf.{head_of}
pub use Rattle.bdb_layout.specs.of_format.Rows.{metadata_rows}
