pub mod ToldLemmas
pub mod GivenLemmas
pub mod HoldLemmas
pub mod ErrorLemmas
pub mod ReadLemmas
pub mod AgainLemmas
pub mod QueueLemmas
pub mod QueueAgainLemmas
