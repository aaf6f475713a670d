pub mod Edges
pub mod FileFaults
pub mod Formed
pub mod MetaFaults
pub mod OnePair
pub mod PageFaults
pub mod Pages
pub mod Unfolded
pub mod Verdicts
pub use Rattle.bdb_format.specs as of_format
