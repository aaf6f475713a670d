pub mod DigitTables
pub mod DigitsIn
pub mod Runs
pub mod SpellErrors
pub mod Spellings
pub use Rattle.bdb_text_format.specs.of_format as of_format
pub use Rattle.bdb_text_format.specs as of_text_format
pub use Rattle.bdb_text_format.specs.of_places as of_places
