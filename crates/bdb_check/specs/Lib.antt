pub use Rattle.bdb_any_order.specs as of_any_order
pub use Rattle.bdb_master.specs.of_btree as of_btree
pub use Rattle.bdb_recno.specs.of_faults as of_faults
pub use Rattle.bdb_recno.specs.of_format as of_format
pub use Rattle.bdb_recno.specs.of_image as of_image
pub use Rattle.bdb_recno.specs.of_overflow as of_overflow
