pub mod Channels
pub mod Effects
