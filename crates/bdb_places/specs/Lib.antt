pub mod Places
pub use Rattle.bdb_format.specs as of_format
