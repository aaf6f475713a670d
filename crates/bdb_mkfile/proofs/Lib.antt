pub mod Common
pub mod FirstLemmas
pub mod ListLemmas
pub mod MetaLemmas
pub mod QueueLemmas
pub mod SettingsLemmas
pub mod TableLemmas
pub mod TreeLemmas
pub mod WrittenLemmas
pub mod NamedBuildLemmas
pub mod EntryLemmas
pub mod NamedMasterLemmas
pub mod NamedLemmas
pub mod NamingLemmas
pub mod RowLemmas
pub mod StandingLemmas
pub mod TableMetaLemmas
pub mod TreeMetaLemmas
pub mod WritingLemmas
pub mod AlikeLemmas
pub mod ApartLemmas
pub mod BuildLemmas
pub mod FitLemmas
pub mod LengthLemmas
pub mod LongLemmas
pub mod MasterLemmas
pub mod NameLemmas
pub mod ReadLemmas
pub mod ShortLemmas
pub use Rattle.bdb_need.proofs.of_graph as of_graph
pub use Rattle.bdb_need.proofs.of_image as of_image
pub use Rattle.bdb_need.proofs.of_law_join as of_law_join
pub use Rattle.bdb_law_sections.proofs as of_law_sections
pub use Rattle.bdb_need.proofs.of_layout as of_layout
pub use Rattle.bdb_need.proofs.of_mkleaves as of_mkleaves
pub use Rattle.bdb_need.proofs as of_need
pub use Rattle.bdb_need.proofs.of_settle as of_settle
