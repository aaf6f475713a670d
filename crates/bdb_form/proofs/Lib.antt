mod Below
pub mod EndLemmas
pub mod FormedLemmas
pub mod SeenLemmas
pub mod SlotLemmas
pub mod WalkLemmas
pub mod ZeroLemmas
pub use Rattle.bdb_layout.proofs.of_format as of_format
