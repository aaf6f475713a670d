pub mod Below
pub mod Bounds
pub mod Counts
pub mod Held
pub mod Noted
pub mod Pairs
pub mod Rows
pub mod Runs
pub mod Search
pub use Rattle.bdb_faults.specs as of_faults
pub use Rattle.bdb_ranks.specs.of_form as of_form
pub use Rattle.bdb_ranks.specs.of_format as of_format
pub use Rattle.bdb_ranks.specs.of_graph as of_graph
pub use Rattle.bdb_ranks.specs.of_image as of_image
pub use Rattle.bdb_ranks.specs.of_layout as of_layout
pub use Rattle.bdb_ranks.specs.of_overflow as of_overflow
pub use Rattle.bdb_ranks.specs.of_slots as of_slots
