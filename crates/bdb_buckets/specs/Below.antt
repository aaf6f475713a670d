-- What the tactics of this crate take from the crates below.
pub use Rattle.bdb_tree.specs.of_format.Contents.{data_of}
pub use Rattle.bdb_tree.specs.of_format.Chains.{value_of}
