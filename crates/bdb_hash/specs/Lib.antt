pub mod Noted
pub mod Passed
pub mod SetOrder
