pub mod Chunks
pub mod WordSize
