-- What the tactics of this crate take from the crates below.
pub use Rattle.bdb_format.specs.Chains.{value_of}
