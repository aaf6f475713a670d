pub mod Built
pub mod Items
pub mod Lending
pub mod OnPages
pub mod Placing
pub mod Stored
pub mod ValueLoop
pub mod Values
pub use Rattle.bdb_law_grove.specs as of_law_grove
pub use Rattle.bdb_layout.specs as of_layout
