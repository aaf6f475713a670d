pub mod Bare
pub mod Bases
pub mod Joining
pub mod Laws
pub mod Lists
pub mod Onto
pub mod Replaced
pub mod Samples
pub mod Search
pub use Rattle.bdb_law_kept.specs as of_law_kept
pub use Rattle.bdb_mkfile.specs.of_law_sections as of_law_sections
pub use Rattle.bdb_mkfile.specs as of_mkfile
pub use Rattle.bdb_mkfile.specs.of_need as of_need
pub use Rattle.bdb_mkfile.specs.of_settle as of_settle
pub use Rattle.bdb_law_kept.specs.of_text as of_text
