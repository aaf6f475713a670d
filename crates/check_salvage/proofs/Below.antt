-- What the tactics of this crate take from the crates below.
pub use Rattle.bdb_tool.proofs.of_any_order.DatabaseLemmas.{has_metadata}
pub use Rattle.bdb_tool.proofs.of_databases.SoundLemmas.{no_structure}
