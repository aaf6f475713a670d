pub mod AnyOrder
pub mod Contents
pub mod Laws
pub mod Noted
