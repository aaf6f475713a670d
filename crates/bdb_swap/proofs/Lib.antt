pub mod NumberLemmas
pub mod WriteLemmas
pub mod PartLemmas
pub mod CrossLemmas
pub mod EndLemmas
pub mod TypedLemmas
pub mod ImageLemmas
pub mod WalkLemmas
