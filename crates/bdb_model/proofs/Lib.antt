pub use Rattle.bdb_text_format.proofs.of_format as of_format
pub use Rattle.bdb_text_format.proofs as of_text_format
