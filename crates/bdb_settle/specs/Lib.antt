pub mod Leads
pub mod ListLaw
pub mod LoadErrors
pub mod Loaded
pub mod Passes
pub mod Settling
pub use Rattle.bdb_mktree.specs.of_text_format as of_text_format
