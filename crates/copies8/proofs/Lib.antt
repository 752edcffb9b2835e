pub mod Besides
pub mod Brought
pub mod Direction
