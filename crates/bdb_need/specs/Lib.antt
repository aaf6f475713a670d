pub mod Counting
pub mod TreePages
pub mod Need
pub use Rattle.bdb_mkqueue.specs.of_faults as of_faults
pub use Rattle.bdb_mkhash.specs.of_format as of_format
pub use Rattle.bdb_mkqueue.specs.of_image as of_image
pub use Rattle.bdb_mkhash.specs.of_law_buckets as of_law_buckets
pub use Rattle.bdb_mkhash.specs.of_law_grove as of_law_grove
pub use Rattle.bdb_mkqueue.specs.of_law_join as of_law_join
pub use Rattle.bdb_mkhash.specs.of_law_levels as of_law_levels
pub use Rattle.bdb_mkhash.specs.of_layout as of_layout
pub use Rattle.bdb_mkqueue.specs.of_meta as of_meta
pub use Rattle.bdb_mkhash.specs as of_mkhash
pub use Rattle.bdb_mkhash.specs.of_mkleaves as of_mkleaves
pub use Rattle.bdb_mkqueue.specs as of_mkqueue
pub use Rattle.bdb_mkhash.specs.of_mktree as of_mktree
pub use Rattle.bdb_mkhash.specs.of_pack as of_pack
pub use Rattle.bdb_mkhash.specs.of_places as of_places
pub use Rattle.bdb_settle.specs as of_settle
pub use Rattle.bdb_mkhash.specs.of_text_format as of_text_format
