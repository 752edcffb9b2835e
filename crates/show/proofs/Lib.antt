pub mod Writing
pub mod TextLengths
pub mod NumberLaws
pub mod LogLaws
pub mod CountLaws
pub mod Counted
