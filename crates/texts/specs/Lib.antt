pub mod Codes
pub mod Texts
pub mod Digits
pub mod Numbers
