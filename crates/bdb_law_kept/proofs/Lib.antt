pub mod LaterLemmas
pub mod SettledLemmas
pub mod NumberedLemmas
pub mod KeyedLemmas
pub mod ContentsLemmas
pub mod SoundLemmas
pub mod AlikeLemmas
pub mod NameLemmas
pub mod BytesLemmas
pub mod WrittenLemmas
pub mod HeaderLemmas
pub mod SectionLemmas
pub mod DumpLemmas
pub use Rattle.bdb_databases.proofs.of_any_order as of_any_order
pub use Rattle.bdb_databases.proofs as of_databases
pub use Rattle.bdb_settle.proofs as of_settle
pub use Rattle.bdb_text.proofs as of_text
