pub mod Apart
pub mod ApartRoom
pub mod Claims
pub mod Laws
pub mod Parts
pub mod Reads
pub mod Repairs
pub mod Room
pub mod Shapes
pub use Rattle.bdb_law_kept.specs.of_any_order as of_any_order
pub use Rattle.bdb_mkfile.specs.of_faults as of_faults
pub use Rattle.bdb_model.specs.of_format as of_format
pub use Rattle.bdb_mkfile.specs.of_image as of_image
pub use Rattle.bdb_io.specs as of_io
pub use Rattle.bdb_mkfile.specs as of_mkfile
pub use Rattle.bdb_model.specs as of_model
pub use Rattle.bdb_rescue.specs as of_rescue
pub use Rattle.bdb_apart.specs as of_apart
pub use Rattle.bdb_mkfile.specs.of_settle as of_settle
pub use Rattle.bdb_rescue.specs.of_survey as of_survey
pub use Rattle.bdb_model.specs.of_text_format as of_text_format
