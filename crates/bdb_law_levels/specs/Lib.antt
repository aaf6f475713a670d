pub mod Branches
pub mod Contents
pub mod Links
pub mod Nodes
pub mod Roots
pub mod SameLeaves
pub mod Separators
