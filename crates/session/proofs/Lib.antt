pub mod Judging
pub mod Lawful
