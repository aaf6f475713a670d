pub mod Texts
pub mod ReadTexts
