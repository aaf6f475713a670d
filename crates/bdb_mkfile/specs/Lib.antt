pub mod LoneImages
pub mod Lists
pub mod FileSettings
pub mod Trees
pub mod WrittenTables
pub mod NamedImages
pub mod NamedLaws
pub mod Layout
pub mod Metas
pub mod Standing
pub mod WrittenMetadata
pub mod Builds
pub mod Lengths
pub mod Loading
pub mod Order
pub mod Settled
pub use Rattle.bdb_need.specs.of_faults as of_faults
pub use Rattle.bdb_io.specs.of_format as of_format
pub use Rattle.bdb_need.specs.of_image as of_image
pub use Rattle.bdb_need.specs.of_law_join as of_law_join
pub use Rattle.bdb_law_sections.specs as of_law_sections
pub use Rattle.bdb_need.specs.of_layout as of_layout
pub use Rattle.bdb_need.specs.of_mkleaves as of_mkleaves
pub use Rattle.bdb_need.specs.of_mktree as of_mktree
pub use Rattle.bdb_need.specs as of_need
pub use Rattle.bdb_need.specs.of_settle as of_settle
pub use Rattle.bdb_text_format.specs as of_text_format
