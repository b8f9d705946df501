pub mod Inline
pub mod Naming
