pub mod Word
pub mod Partials
