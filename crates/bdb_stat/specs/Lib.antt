pub mod Classes
pub mod Unused
pub mod Ends
pub mod Marked
pub mod Starts
pub mod Figures
pub mod Laws
pub use Rattle.bdb_law_turned.specs as of_law_turned
