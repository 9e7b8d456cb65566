pub mod Shapes
pub mod Writing
pub mod Trips
pub mod Laws
