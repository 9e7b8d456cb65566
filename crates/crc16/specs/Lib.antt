pub mod Crc
pub mod Altered
