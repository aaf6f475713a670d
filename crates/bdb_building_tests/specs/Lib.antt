pub mod Queues
pub mod Trees
