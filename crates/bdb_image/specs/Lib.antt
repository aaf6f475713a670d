pub mod Buckets
pub mod Fits
pub mod Formed
pub mod Linked
pub mod Metas
pub mod Noted
pub mod Told
pub use Rattle.bdb_faults.specs as of_faults
pub use Rattle.bdb_slots.specs.of_form as of_form
pub use Rattle.bdb_faults.specs.of_format as of_format
pub use Rattle.bdb_meta.specs.of_layout as of_layout
pub use Rattle.bdb_meta.specs as of_meta
pub use Rattle.bdb_slots.specs as of_slots
