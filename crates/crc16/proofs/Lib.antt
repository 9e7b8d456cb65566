pub mod Register
pub mod Neighbours
pub mod Residue
