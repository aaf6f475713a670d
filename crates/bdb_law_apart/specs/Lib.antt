pub mod Left
pub mod Lists
pub mod Named
pub mod Sections
pub use Rattle.bdb_law_homes.specs.of_law_whole as of_law_whole
