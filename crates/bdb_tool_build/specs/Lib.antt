pub mod Below
pub mod Copied
pub mod Gathered
pub mod Lines
pub mod Loads
pub mod Ontos
pub mod Refusals
pub mod Trials
pub use Rattle.bdb_onto.specs as of_onto
