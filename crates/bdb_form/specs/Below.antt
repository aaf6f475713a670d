-- What the tactics of this crate take from the crates below.
pub use Rattle.bdb_layout.specs.of_format.Reading.{abstract_page}
pub use Rattle.bdb_layout.specs.of_format.Rows.{index_rows, page_code, queue_code}
