pub mod Sizes
pub mod Bytes
pub mod Lines
