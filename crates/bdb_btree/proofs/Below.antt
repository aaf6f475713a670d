-- What the tactics of this crate take from the crates below.
pub use Rattle.bdb_faults.proofs.SinkLemmas.{notes_none}
pub use Rattle.bdb_ranks.proofs.of_form.WalkLemmas.{read_item}
pub use Rattle.bdb_ranks.proofs.of_overflow.ContentLemmas.{leaf_item_fits}
pub use Rattle.bdb_ranks.proofs.of_tree.TreeLemmas.{leaf_inside}
