pub mod Found
pub mod Given
pub mod Kept
pub mod Laws
pub mod Left
pub mod Names
pub mod Numbered
pub mod Queues
pub mod Read
pub mod Rows
pub mod Slots
pub mod Text
pub use Rattle.bdb_rescue.specs.of_format as of_format
pub use Rattle.bdb_rescue.specs as of_rescue
pub use Rattle.bdb_rescue.specs.of_survey as of_survey
pub use Rattle.bdb_rescue.specs.of_layout as of_layout
