pub mod PlainLemmas
pub mod SlotLemmas
pub mod SourceLemmas
pub use Rattle.bdb_form.proofs as of_form
