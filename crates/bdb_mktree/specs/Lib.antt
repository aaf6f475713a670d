pub mod Building
pub mod Lists
pub mod Units
pub use Rattle.bdb_text_format.specs.of_format as of_format
pub use Rattle.bdb_mkleaves.specs.of_law_grove as of_law_grove
pub use Rattle.bdb_mkleaves.specs.of_law_levels as of_law_levels
pub use Rattle.bdb_mkleaves.specs.of_layout as of_layout
pub use Rattle.bdb_mkleaves.specs as of_mkleaves
pub use Rattle.bdb_mkleaves.specs.of_pack as of_pack
pub use Rattle.bdb_text_format.specs.of_places as of_places
pub use Rattle.bdb_text_format.specs as of_text_format
