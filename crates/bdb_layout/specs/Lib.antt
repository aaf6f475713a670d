pub mod Blocks
pub mod Fits
pub mod ItemRows
pub mod Seen
pub use Rattle.bdb_format.specs as of_format
