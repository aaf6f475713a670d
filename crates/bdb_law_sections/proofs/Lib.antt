pub mod HeaderLemmas
pub mod PairLemmas
pub mod SectionLemmas
