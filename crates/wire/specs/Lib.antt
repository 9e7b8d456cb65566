pub mod Codes
pub mod Fields
pub mod Frames
pub mod Packing
pub mod Reading
pub mod Laws
