pub mod Answers
pub mod Changes
pub mod DataLines
pub mod FirstLines
