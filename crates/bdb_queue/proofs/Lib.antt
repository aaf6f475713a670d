pub mod RecordLemmas
pub mod QueueLemmas
pub mod FindLemmas
