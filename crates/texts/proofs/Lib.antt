pub mod Fronts
pub mod TextLaws
pub mod DigitLaws
pub mod NumberLaws
