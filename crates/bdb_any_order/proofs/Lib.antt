pub mod ContentLemmas
pub mod DatabaseLemmas
pub mod MergeLemmas
pub mod OrderLemmas
pub mod RowsLemmas
