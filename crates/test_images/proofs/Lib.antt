mod FieldLemmas
pub mod RowLemmas
pub use Rattle.bdb_tree.proofs as of_tree
