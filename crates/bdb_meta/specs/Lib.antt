pub mod Below
pub mod FirstPage
pub mod RowGroups
pub mod ReadBack
pub use Rattle.bdb_layout.specs as of_layout
