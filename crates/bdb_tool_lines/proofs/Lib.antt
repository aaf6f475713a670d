mod Below
pub mod DigitLemmas
pub mod LineLemmas
pub mod PassingLemmas
pub mod PrintingLemmas
pub mod FinishLemmas
pub mod RefusalLemmas
