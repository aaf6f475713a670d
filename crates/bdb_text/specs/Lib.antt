pub mod Headers
pub mod Laws
pub mod WrittenLaw
pub mod Earlier
pub mod Fields
pub mod DataLines
pub mod ReadTo
pub mod DataTo
pub mod SectionTo
pub use Rattle.bdb_spelling.specs.of_text_format as of_text_format
