pub mod Below
pub mod Pages
pub mod Counts
pub mod Tallies
pub mod Walks
pub use Rattle.bdb_apart.specs as of_apart
pub use Rattle.bdb_apart.specs.of_format as of_format
pub use Rattle.bdb_apart.specs.of_rescue as of_rescue
pub use Rattle.bdb_apart.specs.of_survey as of_survey
