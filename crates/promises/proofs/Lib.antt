pub mod Refused
pub mod OneAnswer
pub mod TwoRuns
pub mod Accepted
pub mod Logged
pub mod Bytes
