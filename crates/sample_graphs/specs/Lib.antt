pub mod Hostile
pub mod MetaForms
pub mod Named
pub mod Ownership
pub mod PageForms
pub mod References
pub mod Tails
pub mod Worked
pub use Rattle.sample_pages.specs.of_format as of_format
pub use Rattle.sample_pages.specs as of_sample_pages
