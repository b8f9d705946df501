pub mod Object
pub mod Hashing
