pub mod Turns
pub mod Crossing
pub mod Formed
pub mod Flip
