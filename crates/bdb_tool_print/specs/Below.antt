-- What the tactics of this crate take from the crates below.
pub use Rattle.bdb_damage.specs.of_apart.Text.{apart_text, rest_text}
pub use Rattle.bdb_damage.specs.of_rescue.Text.{salvage_text}
