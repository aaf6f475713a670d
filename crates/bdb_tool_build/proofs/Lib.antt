pub mod BaseLemmas
mod Below
pub mod EnoughLemmas
pub mod GatheredLemmas
pub mod LoadLemmas
pub mod OntoLemmas
pub mod RefusalLemmas
pub mod TreeLemmas
pub mod TrialLemmas
