pub mod Memories
pub mod Targets
