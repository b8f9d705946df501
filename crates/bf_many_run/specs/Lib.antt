pub mod Command
pub mod Tells
pub mod Lists
pub mod Texts
pub mod Groups
