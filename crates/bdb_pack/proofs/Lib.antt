pub mod AddedLemmas
pub mod BegunLemmas
pub mod BoundLemmas
pub mod Common
pub mod CountLemmas
pub mod CutLemmas
pub mod FitLemmas
pub mod FormLemmas
pub mod HeaderLemmas
pub mod ImageLemmas
pub mod KeptLemmas
pub mod NewRowLemmas
pub mod OpenLemmas
pub mod PieceLemmas
pub mod PlaceLemmas
pub mod PlacedLemmas
pub mod PlacingLaws
pub mod RowsLemmas
pub mod SharedLemmas
pub mod StandingLemmas
pub mod StoredLemmas
pub mod TypeLemmas
pub mod ValueLemmas
pub use Rattle.bdb_law_grove.proofs as of_law_grove
pub use Rattle.bdb_layout.proofs as of_layout
