pub mod OverLemmas
pub mod PageLemmas
pub mod DealLemmas
pub mod StoredLemmas
pub mod ListLemmas
pub mod TableLemmas
pub mod UnsortedLemmas
