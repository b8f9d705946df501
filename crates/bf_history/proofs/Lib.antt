pub mod Alike
pub mod Furnishing
pub mod Meant
pub mod Steps
mod Worked
