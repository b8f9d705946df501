pub mod Headline
pub mod Links
pub mod Telling
