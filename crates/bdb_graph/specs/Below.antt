-- What the tactics of this crate take from the crates below.
pub use Rattle.bdb_image.specs.of_format.Graph.{is_anchor, is_reserve}
