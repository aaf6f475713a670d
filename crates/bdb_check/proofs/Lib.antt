mod UnorderedLemmas
pub mod WholeLemmas
pub use Rattle.bdb_any_order.proofs as of_any_order
pub use Rattle.bdb_master.proofs.of_btree as of_btree
pub use Rattle.bdb_recno.proofs.of_format as of_format
pub use Rattle.bdb_recno.proofs.of_image as of_image
