pub mod Counted
pub mod Filled
pub mod Finished
pub mod Grown
pub mod Inner
pub mod Laid
pub mod Layout
pub mod LeafChildren
pub mod LeafEntries
pub mod Leaves
pub mod Levels
pub mod Moved
pub mod Placed
pub mod Puts
pub mod Rooted
pub mod Runs
pub mod Sets
pub mod Spread
pub mod Tower
pub mod Units
pub use Rattle.bdb_pack.specs.of_law_grove as of_law_grove
pub use Rattle.bdb_law_levels.specs as of_law_levels
pub use Rattle.bdb_pack.specs.of_layout as of_layout
pub use Rattle.bdb_pack.specs as of_pack
