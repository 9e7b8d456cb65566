pub mod Modes
pub mod Sizes
pub mod Facts
pub mod Channels
pub mod Effects
