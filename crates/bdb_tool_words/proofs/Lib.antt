pub mod CommandLemmas
pub mod FindLemmas
pub mod ReadLemmas
pub mod StepLemmas
