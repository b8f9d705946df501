pub mod Counting
pub mod Leaps
pub mod Names
pub mod Order
