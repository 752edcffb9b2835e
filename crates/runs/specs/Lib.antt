pub mod Ran
pub mod Asked
