pub mod Worked
pub mod Splitting
pub mod Cutting
pub mod Starting
pub mod Numbered
