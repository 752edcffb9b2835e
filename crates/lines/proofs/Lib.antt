pub mod BytesLaws
pub mod Logged
pub mod Reasons
