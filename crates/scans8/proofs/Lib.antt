pub mod Differences
pub mod Scanning
