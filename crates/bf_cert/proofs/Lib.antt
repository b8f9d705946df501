pub mod Between
pub mod Climbing
pub mod Cutting
pub mod Digits
pub mod Halving
pub mod Listing
pub mod Making
pub mod Noted
pub mod Ranges
pub mod Saying
pub mod Single
pub mod Sound
pub mod Stages
pub mod Taking
pub mod Telling
pub mod Texts
mod Worked
