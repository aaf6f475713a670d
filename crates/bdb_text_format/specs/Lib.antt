pub mod LineEnd
pub mod TextSpelling
pub mod Written
pub mod TextLines
pub mod Keywords
pub mod Header
pub mod ReasonTable
pub mod Reasons
pub mod Pairs
pub mod Placed
pub mod Gathered
pub mod Sections
pub mod Terms
pub use Rattle.bdb_places.specs.of_format as of_format
pub use Rattle.bdb_places.specs as of_places
