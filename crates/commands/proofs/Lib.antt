pub mod Reading
pub mod Rows
pub mod Tables
pub mod Fine
