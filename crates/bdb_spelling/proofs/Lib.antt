pub mod DigitLemmas
pub mod DigitTableLemmas
pub mod ReadingLemmas
pub mod RunLemmas
pub mod SpellingLemmas
pub use Rattle.bdb_text_format.proofs as of_text_format
