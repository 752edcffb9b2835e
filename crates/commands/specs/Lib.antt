pub mod Sizes
pub mod Fields
pub mod Commands
pub mod Tables
pub mod Fine
