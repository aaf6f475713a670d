pub mod Base
pub mod Memory
pub mod Outside
pub use Rattle.bdb_format.specs as of_format
