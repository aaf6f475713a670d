-- What the tactics of this crate take from the crates below.
pub use Rattle.bdb_tool.proofs.of_mkfile.ReadLemmas.{read_sections_are_loadable}
