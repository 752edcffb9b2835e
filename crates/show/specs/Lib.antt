pub mod Written
pub mod Numbers
pub mod AnswerText
pub mod LoggedText
pub mod Sizes
