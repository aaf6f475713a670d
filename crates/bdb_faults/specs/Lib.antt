pub mod Members
pub mod Notes
pub mod Refusals
pub use Rattle.bdb_format.specs as of_format
