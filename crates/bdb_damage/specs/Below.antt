-- What the tactics of this crate take from the crates below.
pub use Rattle.bdb_apart.specs.of_rescue.Kept.{given}
