mod Below
pub mod CopyLemmas
pub mod GrowingLemmas
pub mod QueueLemmas
