pub mod Passing
pub mod Printing
pub mod Telling
pub mod Finished
pub use Rattle.bdb_model.specs as of_model
