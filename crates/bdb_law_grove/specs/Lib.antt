pub mod Branch
pub mod Growing
pub mod Leaves
pub mod Part
pub mod Standing
pub use Rattle.bdb_format.specs as of_format
