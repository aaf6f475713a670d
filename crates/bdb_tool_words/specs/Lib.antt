pub mod Arguments
pub mod ArgumentsSeen
pub mod Commands
pub mod WordsSeen
pub use Rattle.bdb_model.specs as of_model
pub use Rattle.bdb_model.specs.of_text_format as of_text_format
