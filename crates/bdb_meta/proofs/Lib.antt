pub mod RowLemmas
pub mod SparesLemmas
pub mod FilledLemmas
pub mod CommonLemmas
pub mod FieldLemmas
pub use Rattle.bdb_layout.proofs as of_layout
