pub mod Legs
pub mod Courses
pub mod Within
