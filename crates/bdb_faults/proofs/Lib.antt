pub mod AscendLemmas
pub mod FirstLemmas
pub mod ListLemmas
pub mod MemberLemmas
pub mod SinkLemmas
pub use Rattle.bdb_format.proofs as of_format
