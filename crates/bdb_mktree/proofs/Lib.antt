pub mod BuildingLemmas
pub mod Common
pub mod FinishLemmas
pub mod ListLemmas
pub mod OrderLemmas
pub mod PushedLemmas
pub use Rattle.bdb_text_format.proofs.of_format as of_format
pub use Rattle.bdb_mkleaves.proofs.of_law_grove as of_law_grove
pub use Rattle.bdb_mkleaves.proofs.of_layout as of_layout
pub use Rattle.bdb_mkleaves.proofs as of_mkleaves
pub use Rattle.bdb_mkleaves.proofs.of_pack as of_pack
pub use Rattle.bdb_text_format.proofs as of_text_format
