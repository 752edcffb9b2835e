pub mod Cover
pub mod Sizes
pub mod Raised
