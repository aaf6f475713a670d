pub mod ChainedLemmas
pub mod FaultLemmas
pub mod HashedLemmas
pub mod KeptLemmas
pub mod NotedLemmas
pub mod PassedLemmas
pub mod RepeatLemmas
pub mod SetOrderLemmas
