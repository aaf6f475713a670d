pub mod CountLemmas
pub mod DatabaseLemmas
pub mod FieldLemmas
pub mod HashLemmas
pub mod LeafLemmas
pub mod ListLemmas
pub mod MetaLemmas
pub mod NameLemmas
pub mod OneTreeLemmas
pub mod PairLemmas
pub mod ReadLemmas
pub mod RecordLemmas
pub mod SetLemmas
pub mod TreeLemmas
pub use Rattle.bdb_tree.proofs.of_form as of_form
pub use Rattle.bdb_tree.proofs.of_format as of_format
pub use Rattle.bdb_tree.proofs.of_graph as of_graph
pub use Rattle.bdb_tree.proofs.of_image as of_image
pub use Rattle.bdb_tree.proofs.of_overflow as of_overflow
pub use Rattle.bdb_tree.proofs as of_tree
