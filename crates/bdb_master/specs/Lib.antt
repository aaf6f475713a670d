pub mod Below
pub mod Entries
pub mod Names
pub use Rattle.bdb_btree.specs as of_btree
