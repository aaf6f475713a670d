pub mod Buckets
pub mod Costs
pub mod Filling
pub mod Pages
pub mod Table
pub mod Units
pub use Rattle.bdb_mktree.specs.of_format as of_format
pub use Rattle.bdb_law_buckets.specs as of_law_buckets
pub use Rattle.bdb_mktree.specs.of_law_grove as of_law_grove
pub use Rattle.bdb_mktree.specs.of_law_levels as of_law_levels
pub use Rattle.bdb_mktree.specs.of_layout as of_layout
pub use Rattle.bdb_mktree.specs.of_mkleaves as of_mkleaves
pub use Rattle.bdb_mktree.specs as of_mktree
pub use Rattle.bdb_mktree.specs.of_pack as of_pack
pub use Rattle.bdb_mktree.specs.of_places as of_places
pub use Rattle.bdb_mktree.specs.of_text_format as of_text_format
