pub mod Chains
pub mod ContentFaults
pub mod Duplicates
pub mod Fields
pub mod Judged
pub mod MasterFaults
pub mod Masters
pub mod Named
pub mod Queues
pub mod Records
pub mod Separators
pub mod Shown
pub mod StructureFaults
pub mod Tables
pub mod Trees
pub use Rattle.sample_graphs.specs as of_sample_graphs
pub use Rattle.sample_graphs.specs.of_sample_pages as of_sample_pages
