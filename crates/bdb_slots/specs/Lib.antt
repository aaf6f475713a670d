pub mod Plain
pub mod Slots
pub use Rattle.bdb_form.specs as of_form
